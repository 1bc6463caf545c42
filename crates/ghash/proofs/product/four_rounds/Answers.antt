-- `four_rounds` is right because each round adds its V if its bit is 1.
-- Assumes nothing.
use Rattle.block.specs.Halves.{value}
use Rattle.ghash.proofs.Linear.{rounds_added}
use Rattle.ghash.proofs.product.four_rounds.Goals as goal

pub returns : goal.returns
returns c = let given = c.args in
    cc (rounds_added given.n (value given.v) (value given.second) (value given.third) (value given.fourth) c.requires.0
    c.requires.1 c.requires.2)
