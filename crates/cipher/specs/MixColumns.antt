-- FIPS 197, 5.1.3: MixColumns. Each column, read as a polynomial of four terms, is multiplied by a(x).
-- Assumes nothing.
use Rattle.std.specs.Prelude.{ℕ, List, [], ◌∷◌}
use Rattle.octets.specs.Lists.{octet}
use Rattle.substitution.specs.Field.{◌⊗◌}
use Rattle.cipher.specs.State.{column, state}

-- (5.5): a(x) = {03}x^3 + {01}x^2 + {01}x + {02}, its coefficients from that of x^0 up
abbrev pub mixer : List ℕ
mixer = 0x02 ∷ 0x01 ∷ 0x01 ∷ 0x03 ∷ []

unfoldable pub mix_columns : List ℕ → List ℕ
mix_columns s = state (λ r c. octet (mixer ⊗ column s c) r)
