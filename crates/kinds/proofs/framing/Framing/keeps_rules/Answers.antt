-- `keeps_rules` is right because it joins the tests that the definition joins.
-- Assumes nothing.
use Rattle.kinds.proofs.framing.Framing.keeps_rules.Goals as goal

pub returns : goal.returns
returns c = rw (c.may_end_in_field.ensures, c.keeps_rules.ensures)
