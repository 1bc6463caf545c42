-- `key_ok` is right because it joins the tests that the definition joins.
-- Assumes nothing.
use Rattle.keys.specs.Keys.{key_ok}
use Rattle.keys.proofs.keys.key_ok.Goals as goal

pub returns : goal.returns
unfolding key_ok
returns c = rw (c.key_state_at.ensures, c.id_rises.ensures)
