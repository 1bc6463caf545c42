-- `desk_report` is right because it reads each field where the definition has it, and past the end 0.
-- Assumes nothing.
use Rattle.reports.specs.Desks.{desk_report}
use Rattle.reports.proofs.desk_report.Goals as goal

pub returns : goal.returns
unfolding desk_report
returns c = cc
