-- `header_length` is right because each arm asks the type of the kind that it is the arm of.
-- Assumes nothing.
use Rattle.kinds.proofs.kinds.Kind.header_length.Goals as goal

pub returns-in-Tm : goal.returns-in-Tm
returns-in-Tm c = rw c.in-Tm.is c.header_length.ensures
