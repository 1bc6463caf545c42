-- SP 800-38D, 6.4: GHASH, Algorithm 2, over a string of octets whose length is a multiple of 16, under the hash subkey H.
-- Assumes nothing.
use Rattle.std.specs.Prelude.{ℕ, zero, suc, ◌/◌, List, length, drop}
use Rattle.octets.specs.Numbers.{number}
use Rattle.octets.specs.Xor.{◌⊕◌}
use Rattle.ghash.specs.Product.{◌•◌}

-- step 3 for n blocks: Y_i = (Y_(i-1) ⊕ X_i) • H, from Y_0 = y
unfoldable pub ghash_from : ℕ → ℕ → ℕ → List ℕ → ℕ
ghash_from h zero y x = y
ghash_from h (suc n) y x = ghash_from h n ((y ⊕ number 16 x) • h) (drop 16 x)

-- all blocks of X, from Y_0 = 0^128
unfoldable pub ghash : ℕ → List ℕ → ℕ
ghash h x = ghash_from h (length x / 16) 0 x
