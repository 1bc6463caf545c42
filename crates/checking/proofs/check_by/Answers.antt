-- `check_by` is right because the outcome is the one that is told.
-- Assumes nothing.
use Rattle.checking.proofs.check_by.Goals as goal

pub returns : goal.returns
returns c = c.check_telling-told.ensures.output_after
