-- CCSDS 232.0 and CCSDS 132.0: the frame error control field.
--     FECF = [x^16 · M(x) + x^(n - 16) · L(x)] modulo G(x)
-- M(x) is the message, the n - 16 bits before the field, its first bit the coefficient of the highest power; L(x) presets the register to
-- all ones. Nothing is inverted at the end, and the field stands behind the message, its high octet first.
-- Assumes nothing.
use Rattle.std.specs.Prelude.{ℕ, ◌-◌, ◌*◌, ◌^◌, Bool, List, ◌++◌, length, drop}
use Rattle.octets.specs.Numbers.{number, bytes}
use Rattle.octets.specs.Same.{same}
use Rattle.octets.specs.Xor.{◌⊕◌}
use Rattle.check_field.specs.Polynomials.{remainder}

-- L(x) = x^15 + x^14 + .. + x + 1
abbrev pub L : ℕ
L = 2 ^ 16 - 1

-- the field of the first n octets, which as a big-endian number are M(x)
unfoldable pub check_field_of : ℕ → List ℕ → ℕ
check_field_of n s = remainder (8 * n) (number n s * 2 ^ 16 ⊕ L * 2 ^ (8 * n))

unfoldable pub check_field : List ℕ → ℕ
check_field s = check_field_of (length s) s

-- a message with its field behind it
unfoldable pub with_field : List ℕ → List ℕ
with_field message = message ++ bytes 2 (check_field message)

-- whether the last two octets of a frame are the field of those before them
unfoldable pub right_field : List ℕ → Bool
right_field frame = same (drop (length frame - 2) frame) (bytes 2 (check_field_of (length frame - 2) frame))
