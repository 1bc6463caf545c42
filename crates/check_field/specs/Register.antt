-- The shift register that makes the field, which the code follows. That it makes the field is proved: `check_field_of n s ≡ register n s`.
-- Assumes nothing.
use Rattle.std.specs.Prelude.{ℕ, zero, suc, ◌*◌, ◌^◌, List}
use Rattle.octets.specs.Lists.{octet}
use Rattle.octets.specs.Xor.{◌⊕◌}
use Rattle.check_field.specs.CheckField.{L}
use Rattle.check_field.specs.Polynomials.{coefficient, G, remainder}

-- x · r modulo G, for r of degree below 16: one shift to the left, and G taken away where x^16 is there
unfoldable pub shift : ℕ → ℕ
shift r = r * 2 ⊕ coefficient r 15 * G

-- x^n · r modulo G
unfoldable pub shifts : ℕ → ℕ → ℕ
shifts zero r = r
shifts (suc n) r = shift (shifts n r)

-- x^n · r + x^16 · m modulo G: the register r after the n bits of the number m
unfoldable pub after_bits : ℕ → ℕ → ℕ → ℕ
after_bits n r m = shifts n r ⊕ remainder n (m * 2 ^ 16)

-- the register 0 after four words of 64 bits
abbrev pub four_words : ℕ → ℕ → ℕ → ℕ → ℕ
four_words a b c d = after_bits 64 (after_bits 64 (after_bits 64 (after_bits 64 0 a) b) c) d

-- an octet is added to the high half of the register, and eight shifts follow
abbrev pub entered : ℕ → ℕ → ℕ
entered r o = shifts 8 (r ⊕ o * 256)

-- the register after n octets
unfoldable pub register : ℕ → List ℕ → ℕ
register zero s = L
register (suc n) s = entered (register n s) (octet s n)

-- entry k of the table: what eight shifts make of the octet k in the high half
abbrev pub shifted_octet : ℕ → ℕ
shifted_octet k = shifts 8 (k * 256)
