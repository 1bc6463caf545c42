-- `secure_lent` is right because no tables are lent to the engine that needs none.
-- Assumes nothing.
use borrow.Author.Rules.{rules}
use Rattle.lent_calls.proofs.secure_lent.Goals as goal

pub secure_by_tables-requires : goal.secure_by_tables-requires
secure_by_tables-requires c = search rules

pub returns : goal.returns
returns c = c.secure_by_tables.ensures
