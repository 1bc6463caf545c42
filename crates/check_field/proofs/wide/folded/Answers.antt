-- `folded` is right because x^64 = x^48 + x^20 + 1 modulo G, and what then stands above 64 bits is folded with the rest, as the quotient has it.
-- Assumes nothing.
use borrow.Author.Rules.{rules}
use Rattle.check_field.proofs.Folding.{two_folded}
use Rattle.check_field.proofs.wide.folded.Goals as goal

pub returns : goal.returns
returns c = two_folded c.args.first (search rules) c.args.second
