-- The products by {01}, {02} and {03}, which are the coefficients of MixColumns.
-- Assumes nothing.
use mathlib.Core.Path.{◌≡◌, ap}
use Prim.Native.Nat.{ℕ}
use lib.Bits.{xor_zero_r}
use Rattle.octets.specs.Xor.{◌⊕◌}
use Rattle.substitution.specs.Field.{◌•◌, xtime, mul_bits}

pub mul-one : (a : ℕ) → 1 • a ≡ a
unfolding ◌•◌ mul_bits
mul-one a = xor_zero_r a

pub mul-two : (a : ℕ) → 2 • a ≡ xtime a
unfolding ◌•◌ mul_bits
mul-two a = xor_zero_r (xtime a)

pub mul-three : (a : ℕ) → 3 • a ≡ a ⊕ xtime a
unfolding ◌•◌ mul_bits
mul-three a = ap (λ (x : ℕ). a ⊕ x) (xor_zero_r (xtime a))
