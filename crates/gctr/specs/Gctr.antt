-- SP 800-38D, 6.5: GCTR, Algorithm 3, over a string of octets, with AES-256. All that it needs of the key K is CIPH_K, so K is given by its
-- expansion w.
-- Assumes nothing.
use Rattle.std.specs.Prelude.{ℕ, zero, suc, List, [], ◌++◌, length, drop}
use Rattle.octets.specs.Numbers.{bytes}
use Rattle.octets.specs.Xor.{xors}
use Rattle.cipher.specs.Cipher.{cipher}
use Rattle.block.specs.Lengths.{blocks}
use Rattle.gctr.specs.Increment.{inc32}

-- CIPH_K of a block, as 16 octets
abbrev pub ciph : List ℕ → ℕ → List ℕ
ciph w x = cipher w (bytes 16 x)

-- steps 4 to 8 for the n blocks of X, from CB_1 = cb: each whole block is added to CIPH_K(CB_i), with CB_i = inc32(CB_(i-1)), and the last,
-- which may be shorter, to the first octets of CIPH_K(CB_n)
unfoldable pub gctr_from : List ℕ → ℕ → ℕ → List ℕ → List ℕ
gctr_from w zero cb x = []
gctr_from w (suc zero) cb x = xors (length x) x (ciph w cb)
gctr_from w (suc (suc n)) cb x = xors 16 x (ciph w cb) ++ gctr_from w (suc n) (inc32 cb) (drop 16 x)

-- GCTR_K(ICB, X)
unfoldable pub gctr : List ℕ → ℕ → List ℕ → List ℕ
gctr w icb x = gctr_from w (blocks (length x)) icb x
