-- `counts_length` is right because each arm asks the type of the kind that it is the arm of.
-- Assumes nothing.
use Rattle.kinds.proofs.kinds.Kind.counts_length.Goals as goal

pub returns-in-Tc : goal.returns-in-Tc
returns-in-Tc c = rw c.in-Tc.is c.counts_length.ensures

pub returns-in-SegmentedTc : goal.returns-in-SegmentedTc
returns-in-SegmentedTc c = rw c.in-SegmentedTc.is c.counts_length-in-SegmentedTc.ensures
