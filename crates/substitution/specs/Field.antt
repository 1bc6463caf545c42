-- FIPS 197, 4: the field GF(2^8), and polynomials with coefficients in it. An octet b is the polynomial whose coefficient of x^i is
-- bit i of b. Addition (4.1) is the exclusive-or of the bits, `◌⊕◌`.
-- Assumes nothing.
use Rattle.std.specs.Prelude.{ℕ, zero, suc, ◌+◌, ◌-◌, ◌*◌, ◌/◌, ◌%◌, cond, List, ltb, eqb}
use Rattle.octets.specs.Lists.{octet, tab}
use Rattle.octets.specs.Xor.{◌⊕◌}

-- 4.2.1: b times x, modulo m(x) = x^8 + x^4 + x^3 + x + 1: a shift to the left, and where bit 7 is shifted out, the exclusive-or with {1b}
unfoldable pub xtime : ℕ → ℕ
xtime b = cond (ltb b 128) (b * 2) ((b - 128) * 2 ⊕ 0x1b)

-- the sum, over the n low bits of b that are set, of a times that power of x
unfoldable pub mul_bits : ℕ → ℕ → ℕ → ℕ
mul_bits zero b a = 0
mul_bits (suc n) b a = cond (eqb (b % 2) 1) a 0 ⊕ mul_bits n (b / 2) (xtime a)

-- 4.2: b times a
unfoldable pub ◌•◌ : ℕ → ℕ → ℕ
unfolding mul_bits
b • a = mul_bits 8 b a

infixl 70 ◌•◌
-- 4.3, (4.12): the product modulo x^4 + 1 of two polynomials of four terms, each given by its coefficients a_0, a_1, a_2, a_3
unfoldable pub ◌⊗◌ : List ℕ → List ℕ → List ℕ
a ⊗ b =
    tab 4
    (λ i. octet a i • octet b 0 ⊕ octet a ((i + 3) % 4) • octet b 1 ⊕ octet a ((i + 2) % 4) • octet b 2 ⊕ octet a ((i + 1) % 4) • octet b 3)

infixl 70 ◌⊗◌
