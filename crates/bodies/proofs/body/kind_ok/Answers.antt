-- `kind_ok` is right because the kind that the number names gives the rules, and a number that names none breaks the rule.
-- Assumes nothing.
use Rattle.bodies.proofs.body.kind_ok.Goals as goal

pub returns-in-Some : goal.returns-in-Some
returns-in-Some c = rw (← c.kind_in.ensures, ← c.kind_of.ensures, c.in-Some.is) c.kind_kept.ensures

pub returns-in-None : goal.returns-in-None
returns-in-None c = rw (← c.kind_in.ensures, ← c.kind_of.ensures, c.in-None.is)
