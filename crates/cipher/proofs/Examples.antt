-- A worked example of FIPS 197, which antt computes from the definitions.
-- Assumes nothing.
use mathlib.Core.Path.{◌≡◌, refl}
use mathlib.Core.List.{[], ◌∷◌}
use Rattle.octets.specs.Lists.{tab}
use Rattle.substitution.specs.Field.{xtime, mul_bits, ◌•◌, ◌⊗◌}
use Rattle.cipher.specs.MixColumns.{mixer}

-- 4.3: a(x) and its inverse, {0b}x^3 + {0d}x^2 + {09}x + {0e}
unmixed : mixer ⊗ (0x0e ∷ 0x09 ∷ 0x0d ∷ 0x0b ∷ []) ≡ 0x01 ∷ 0x00 ∷ 0x00 ∷ 0x00 ∷ []
unfolding ◌⊗◌ ◌•◌ mul_bits xtime tab
unmixed = refl
