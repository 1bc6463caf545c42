-- `store` is right because each octet is the one of its weight, in the half that has it.
-- Assumes nothing.
use Rattle.block.proofs.Halves.{bytes_halves}
use borrow.Author.Rules.{rules}
use Rattle.block.proofs.store.Goals as goal

pub returns : goal.returns
returns c = let b = c.args.b in
    bytes_halves b.hi b.lo (search rules)
