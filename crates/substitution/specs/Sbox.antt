-- FIPS 197, 5.1.1: the S-box, which is the inverse in the field, followed by an affine step on the bits.
-- Assumes nothing.
use Rattle.std.specs.Prelude.{◌≡◌, ℕ, zero, suc, ◌+◌, ◌*◌, ◌/◌, ◌%◌, ◌^◌, ◌<◌}
use Rattle.octets.specs.Xor.{◌⊕◌}
use Rattle.substitution.specs.Field.{◌•◌}

-- a is the inverse of b: 0 of 0, and otherwise the octet that times b gives 1
pub record IsInverse (b a : ℕ) : Type 0 where
  pub octets : a < 256
  pub of_zero : b ≡ 0 → a ≡ 0
  pub product : 0 < b → b • a ≡ 1

-- the product of the n squares b^2, b^4, b^8, ..
unfoldable pub squares : ℕ → ℕ → ℕ
squares zero b = 1
squares (suc n) b = (b • b) • squares n (b • b)

-- the inverse of b is b^254 = b^2 • b^4 • .. • b^128. That this is the inverse, at every octet, is proved: `IsInverse b (inverse b)`
unfoldable pub inverse : ℕ → ℕ
unfolding squares
inverse b = squares 7 b

-- bit i of b
abbrev pub bit : ℕ → ℕ → ℕ
bit b i = b / 2 ^ i % 2

-- (5.1): bit i of the affine step's result, c being the octet {63}
abbrev pub affine_bit : ℕ → ℕ → ℕ
affine_bit b i =
    bit b i ⊕ bit b ((i + 4) % 8) ⊕ bit b ((i + 5) % 8) ⊕ bit b ((i + 6) % 8) ⊕ bit b ((i + 7) % 8) ⊕ bit 0b01100011 i

-- the number whose n low bits are f 0, f 1, .., f (n - 1)
unfoldable pub of_bits : ℕ → (ℕ → ℕ) → ℕ
of_bits zero f = 0
of_bits (suc n) f = of_bits n f + f n * 2 ^ n

unfoldable pub affine : ℕ → ℕ
unfolding of_bits
affine b = of_bits 8 (affine_bit b)

unfoldable pub sbox : ℕ → ℕ
sbox b = affine (inverse b)
