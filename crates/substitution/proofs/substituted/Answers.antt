-- `substituted` is right because the table that it is lent is the S-box at every octet.
-- Assumes nothing.
use borrow.Author.Rules.{rules}
use Rattle.substitution.proofs.substituted.Goals as goal

pub returns : goal.returns
returns c = c.requires.entry c.args.b (search rules)
