-- FIPS 197, 5.1.1: SubBytes. The S-box at each octet of the state.
-- Assumes nothing.
use Rattle.std.specs.Prelude.{ℕ, List}
use Rattle.substitution.specs.Sbox.{sbox}
use Rattle.cipher.specs.State.{at, state}

unfoldable pub sub_bytes : List ℕ → List ℕ
sub_bytes s = state (λ r c. sbox (at s r c))
