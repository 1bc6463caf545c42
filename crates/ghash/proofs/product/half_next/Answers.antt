-- `half_next` is right because the high half moves to the low one, and what falls out comes back as its product with R.
-- Assumes nothing.
use Rattle.ghash.proofs.Unreduced.{half_next}
use borrow.Author.Rules.{rules}
use Rattle.ghash.proofs.product.half_next.Goals as goal

pub returns : goal.returns
returns c = let z = c.args.z in half_next z.hi z.lo (search rules) (search rules)
