-- FIPS 197, 5.1.2: ShiftRows, (5.3) with shift(r, 4) = r: row r is rotated to the left by r places.
-- Assumes nothing.
use Rattle.std.specs.Prelude.{ℕ, ◌+◌, ◌%◌, List}
use Rattle.cipher.specs.State.{at, state}

unfoldable pub shift_rows : List ℕ → List ℕ
shift_rows s = state (λ r c. at s r ((c + r) % 4))
