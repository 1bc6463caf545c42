-- `keeps_rules` is right because each arm asks the type of the kind that it is the arm of.
-- Assumes nothing.
use Rattle.kinds.proofs.kinds.Kind.keeps_rules.Goals as goal

pub returns-in-Tc : goal.returns-in-Tc
returns-in-Tc c = rw c.in-Tc.is c.keeps_rules.ensures

pub returns-in-SegmentedTc : goal.returns-in-SegmentedTc
returns-in-SegmentedTc c = rw c.in-SegmentedTc.is c.keeps_rules-in-SegmentedTc.ensures

pub returns-in-Tm : goal.returns-in-Tm
returns-in-Tm c = rw c.in-Tm.is c.keeps_rules-in-Tm.ensures

pub returns-in-Aos : goal.returns-in-Aos
returns-in-Aos c = rw c.in-Aos.is c.keeps_rules-in-Aos.ensures
