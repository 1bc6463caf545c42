-- `check` is right because no tables are lent to the engine that needs none.
-- Assumes nothing.
use Rattle.checking.proofs.check.Goals as goal

pub returns : goal.returns
returns c = c.check_by.ensures
