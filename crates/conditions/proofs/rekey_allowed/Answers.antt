-- `rekey_allowed` is right because it makes the tests that the definition joins.
-- Assumes nothing.
use Rattle.conditions.proofs.rekey_allowed.Goals as goal

pub returns : goal.returns
returns c = rw (c.number_is_0.ensures, c.two_at.ensures, c.layout_of.ensures.0)
