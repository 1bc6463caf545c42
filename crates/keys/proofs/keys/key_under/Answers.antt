-- `key_under` is right because it copies the octets behind the state of the key that the search finds.
-- Assumes nothing.
use Rattle.keys.specs.Keys.{key_under}
use Rattle.keys.proofs.keys.key_under.Goals as goal

pub returns : goal.returns
unfolding key_under
returns c = rw (← c.key_index.ensures, ← c.key_state_place-place.ensures) c.copy_at.ensures
