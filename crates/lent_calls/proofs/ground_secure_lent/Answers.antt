-- `ground_secure_lent` is right because the tables are those of the word engine.
-- Assumes nothing.
use borrow.Author.Rules.{rules}
use Rattle.lent_calls.proofs.ground_secure_lent.Goals as goal

pub secure_by_tables-requires : goal.secure_by_tables-requires
secure_by_tables-requires c = search rules

pub returns : goal.returns
returns c = c.secure_by_tables.ensures
