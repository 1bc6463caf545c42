-- FIPS 197, 3.5: a word of four octets as a number, the first octet highest.
-- Assumes nothing.
use Rattle.std.specs.Prelude.{ℕ, ◌-◌, ◌*◌, ◌/◌, ◌%◌, ◌^◌}

-- the octet of a column in row r
abbrev pub row_of : ℕ → ℕ → ℕ
row_of r x = x / 2 ^ (24 - 8 * r) % 256
