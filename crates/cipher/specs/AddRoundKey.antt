-- FIPS 197, 5.1.4: AddRoundKey. (5.7): column c of the state and word 4 round + c of the expanded key w are added, octet by octet.
-- Assumes nothing.
use Rattle.std.specs.Prelude.{ℕ, ◌+◌, ◌*◌, List}
use Rattle.octets.specs.Xor.{◌⊕◌}
use Rattle.cipher.specs.State.{at, state}

unfoldable pub add_round_key : List ℕ → ℕ → List ℕ → List ℕ
add_round_key w round s = state (λ r c. at s r c ⊕ at w r (4 * round + c))
