-- `moved_down` is right because the bits that leave the high half enter the low one, and those at the top meet nothing.
-- Assumes nothing.
use Rattle.ghash.proofs.Unreduced.{down_halves}
use borrow.Author.Rules.{rules}
use Rattle.ghash.proofs.product.moved_down.Goals as goal

pub returns : goal.returns
returns c = let given = c.args in
    down_halves given.top given.z.hi given.z.lo (search rules) (search rules)
