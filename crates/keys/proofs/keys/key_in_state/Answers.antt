-- `key_in_state` is right because it tests the state of the key that the search finds.
-- Assumes nothing.
use Rattle.keys.specs.Keys.{key_in_state}
use Rattle.keys.proofs.keys.key_in_state.Goals as goal

pub returns : goal.returns
unfolding key_in_state
returns c = rw (← c.key_index-k.ensures, ← c.key_state_at.ensures)
