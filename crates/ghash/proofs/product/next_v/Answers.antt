-- `next_v` is right because R lies in the high half, and the bit that leaves the high half enters the low one.
-- Assumes nothing.
use Rattle.ghash.proofs.Shifts.{next_halves}
use borrow.Author.Rules.{rules}
use Rattle.ghash.proofs.product.next_v.Goals as goal

pub returns : goal.returns
returns c = let v = c.args.v in next_halves v.hi v.lo (search rules)
