-- A worked example, which antt computes from the definition: the field of the nine octets '1' to '9' of ASCII.
-- Assumes nothing.
use mathlib.Core.Path.{◌≡◌, refl}
use mathlib.Core.List.{[], ◌∷◌}
use Rattle.octets.specs.Numbers.{number}
use Rattle.check_field.specs.Polynomials.{remainder}
use Rattle.check_field.specs.CheckField.{check_field_of, check_field}

nine-digits : check_field (0x31 ∷ 0x32 ∷ 0x33 ∷ 0x34 ∷ 0x35 ∷ 0x36 ∷ 0x37 ∷ 0x38 ∷ 0x39 ∷ []) ≡ 0x29b1
unfolding check_field check_field_of number remainder
nine-digits = refl
