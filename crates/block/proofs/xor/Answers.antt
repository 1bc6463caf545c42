-- `xor` is right because the two halves are added apart.
-- Assumes nothing.
use borrow.Author.Rules.{rules}
use Rattle.block.proofs.Halves.{xor_halves}
use Rattle.block.proofs.xor.Goals as goal

pub returns : goal.returns
returns c = let given = c.args in
    xor_halves given.a.hi given.a.lo given.b.hi given.b.lo (search rules) (search rules)
