use Rattle.std.proofs.Common.{◌≡◌, ℕ, ◌<◌, length}
use Rattle.ghash.specs.Product.{product_rounds}
use Rattle.block.specs.Halves.{value}
use Rattle.ghash.specs.Table.{entry}
use Rattle.ghash.proofs.product.table.Given as goal

abbrev pub invariant-loop-n : goal.invariant-loop-n
invariant-loop-n l = (length l.t ≡ 32) × ((m : ℕ) → m < l.n → entry l.t m ≡ product_rounds 4 m 0 (value l.h))
