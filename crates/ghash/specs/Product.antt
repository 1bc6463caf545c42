-- SP 800-38D, 6.3: the product of two blocks, Algorithm 1. A block of 128 bits is a number below 2 ^ 128, whose first bit has the weight
-- 2 ^ 127, so V >> 1 is V / 2 and LSB(V) is V % 2.
-- Assumes nothing.
use Rattle.std.specs.Prelude.{ℕ, zero, suc, ◌*◌, ◌/◌, ◌%◌, ◌^◌}
use Rattle.octets.specs.Xor.{◌⊕◌}

-- R = 11100001 || 0^120
abbrev pub R : ℕ
R = 0b11100001 * 2 ^ 120

-- step 3, the next V: V >> 1, and R added to it if LSB(V) is 1
unfoldable pub next_v : ℕ → ℕ
next_v v = v / 2 ⊕ v % 2 * R

-- step 3, the last k of the 128 rounds, from Z and V. The first of them looks at the bit of X that has the weight 2 ^ (k - 1), and V is
-- added to Z if that bit is 1
unfoldable pub product_rounds : ℕ → ℕ → ℕ → ℕ → ℕ
product_rounds zero x z v = z
product_rounds (suc k) x z v = product_rounds k x (z ⊕ x / 2 ^ k % 2 * v) (next_v v)

-- X • Y: all rounds, from Z_0 = 0^128 and V_0 = Y
unfoldable pub ◌•◌ : ℕ → ℕ → ℕ
x • y = product_rounds 128 x 0 y

infixl 70 ◌•◌
