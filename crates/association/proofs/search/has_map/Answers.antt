-- `has_map` is right because a kind that a number names has a MAP if its limit is above 0, and a number that names none has none.
-- Assumes nothing.
use Rattle.association.proofs.search.has_map.Goals as goal

pub returns-in-Some : goal.returns-in-Some
returns-in-Some c = rw (← c.kind_of.ensures, c.in-Some.is, c.most_map.ensures)

pub returns-in-None : goal.returns-in-None
returns-in-None c = rw (← c.kind_of.ensures, c.in-None.is)
