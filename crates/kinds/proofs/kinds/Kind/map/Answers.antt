-- `map` is right because each arm asks the type of the kind that it is the arm of.
-- Assumes nothing.
use Rattle.kinds.proofs.kinds.Kind.map.Goals as goal

pub returns-in-SegmentedTc : goal.returns-in-SegmentedTc
returns-in-SegmentedTc c = rw c.in-SegmentedTc.is c.map.ensures
