-- The table of a hash subkey H, by which a product with H takes four bits at a time.
-- Assumes nothing.
use Rattle.std.specs.Prelude.{◌≡◌, List, ℕ, zero, suc, ◌+◌, ◌*◌, ◌^◌, ◌<◌}
use Rattle.octets.specs.Lists.{octet}
use Rattle.ghash.specs.Product.{next_v, product_rounds}

-- the next V, n times over
unfoldable pub nexts : ℕ → ℕ → ℕ
nexts zero v = v
nexts (suc n) v = next_v (nexts n v)

-- entry n, in two words of 64 bits
abbrev pub entry : List ℕ → ℕ → ℕ
entry t n = octet t (n * 2) * 2 ^ 64 + octet t (n * 2 + 1)

-- entry n is what the last four rounds of a product with H give for the four bits of n
pub record IsTableOf (h : ℕ) (t : List ℕ) : Type 0 where
  pub entries : (n : ℕ) → n < 16 → entry t n ≡ product_rounds 4 n 0 h
