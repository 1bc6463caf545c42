-- `trailer_length` is right because each arm asks the type of the kind that it is the arm of.
-- Assumes nothing.
use Rattle.kinds.proofs.kinds.Kind.trailer_length.Goals as goal

pub returns-in-Tm : goal.returns-in-Tm
returns-in-Tm c = rw c.in-Tm.is c.trailer_length.ensures
