-- FIPS 197, 3.4 and 3.5: a state as its four columns, each a word.
-- Assumes nothing.
use Rattle.std.specs.Prelude.{◌≡◌, List, ℕ, ◌<◌}
use Rattle.octets.specs.Lists.{octet}
use Rattle.cipher.specs.State.{state}
use Rattle.columns.specs.Words.{row_of}

-- the rows of the word x are y 0 to y 3
pub record Column (x : ℕ) (y : ℕ → ℕ) : Type 0 where
  pub row : (r : ℕ) → r < 4 → row_of r x ≡ y r

-- the state whose columns are the four words v
unfoldable pub state_from : List ℕ → List ℕ
state_from v = state (λ r c. row_of r (octet v c))
