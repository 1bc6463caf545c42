-- FIPS 197, 5.1.1 and 5.1.2: a column of a state after SubBytes and ShiftRows, from the four columns that it takes a row of.
-- Assumes nothing.
use Rattle.std.specs.Prelude.{List, [], ◌∷◌, ℕ}
use Rattle.substitution.specs.Sbox.{sbox}
use Rattle.columns.specs.Words.{row_of}

-- the S-box at row 0 of a, row 1 of b, row 2 of c and row 3 of d
abbrev pub diagonal : ℕ → ℕ → ℕ → ℕ → List ℕ
diagonal a b c d = sbox (row_of 0 a) ∷ sbox (row_of 1 b) ∷ sbox (row_of 2 c) ∷ sbox (row_of 3 d) ∷ []
