-- `shifted_octet` is right because the table that it is lent has eight shifts of every octet.
-- Assumes nothing.
use borrow.Author.Rules.{rules}
use Rattle.check_field.proofs.table.shifted_octet.Goals as goal

pub returns : goal.returns
returns c = c.requires.entry c.args.octet (search rules)
