-- `obeys` is right because it asks the kind that the number names, and a number that names none is obeyed by no frame.
-- Assumes nothing.
use Rattle.frame.specs.Rules.{obeys}
use Rattle.frame.proofs.rules.obeys.Goals as goal

pub returns-in-Some : goal.returns-in-Some
returns-in-Some c = rw (← c.kind_of.ensures, c.in-Some.is) c.framing_obeyed.ensures

pub returns-in-None : goal.returns-in-None
unfolding obeys
returns-in-None c = rw (← c.kind_of.ensures, c.in-None.is)
