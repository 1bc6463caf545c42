-- FIPS 197, 3.4: the state, four rows and four columns of octets. It is kept as a list in the order of the input and the output, so the
-- octet at row r and column c is octet r + 4c of the list.
-- Assumes nothing.
use Rattle.std.specs.Prelude.{ℕ, ◌+◌, ◌*◌, ◌/◌, ◌%◌, List}
use Rattle.octets.specs.Lists.{octet, tab}

-- the octet of s at row r and column c
abbrev pub at : List ℕ → ℕ → ℕ → ℕ
at s r c = octet s (r + 4 * c)

-- octet i stands at row i % 4 and column i / 4
abbrev pub cell : (ℕ → ℕ → ℕ) → ℕ → ℕ
cell f i = f (i % 4) (i / 4)

-- the state whose octet at row r and column c is f r c
abbrev pub state : (ℕ → ℕ → ℕ) → List ℕ
state f = tab 16 (cell f)

-- 3.5: column c of s, a word
abbrev pub column : List ℕ → ℕ → List ℕ
column s c = tab 4 (λ r. at s r c)
