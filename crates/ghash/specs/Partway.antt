-- SP 800-38D, 6.3: how far a product with H has come, both halves of the block at once.
-- Assumes nothing.
use Rattle.std.specs.Prelude.{◌≡◌, ℕ, ◌-◌, ◌%◌, ◌^◌}
use Rattle.octets.specs.Xor.{◌⊕◌}
use Rattle.ghash.specs.Product.{product_rounds}
use Rattle.ghash.specs.Table.{nexts}

-- v, and w at 128 places below it, are what the last k rounds give for the k low bits of each half; of w the bits that are still to come are 0
pub record Partway (h hi lo k v w : ℕ) : Type 0 where
  pub empty : w % 2 ^ (64 - k) ≡ 0
  pub sums : v ⊕ nexts 128 w ≡ product_rounds k hi 0 h ⊕ nexts 64 (product_rounds k lo 0 h)
