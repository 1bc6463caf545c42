-- `after_reset` is right because what it calls is what the definition is made of.
-- Assumes nothing.
use Rattle.reports.proofs.Reports.after_reset.Goals as goal

pub returns : goal.returns
returns c = cc
