-- `ground_check_noted` is right because the tables are those of the word engine.
-- Assumes nothing.
use borrow.Author.Rules.{rules}
use Rattle.lent_checks.proofs.ground_check_noted.Goals as goal

pub check_lent-requires : goal.check_lent-requires
check_lent-requires c = search rules

pub returns : goal.returns
returns c = c.check_lent.ensures
