-- The tables by which a round takes SubBytes and MixColumns (FIPS 197, 5.1.1 and 5.1.3) in one step: four of 256 words, one behind the other.
-- Assumes nothing.
use Rattle.std.specs.Prelude.{◌≡◌, List, ℕ, ◌+◌, ◌-◌, ◌*◌, ◌%◌, ◌<◌, length}
use Rattle.octets.specs.Lists.{octet}
use Rattle.substitution.specs.Field.{◌•◌}
use Rattle.substitution.specs.Sbox.{sbox}
use Rattle.cipher.specs.MixColumns.{mixer}
use Rattle.columns.specs.Words.{row_of}

-- With s the S-box of b, word b of table 0 is {02} • s, s, s, {03} • s, and that of table j is the same with its octets rotated j places to the
-- right: what MixColumns makes of a column that has s in row j, and zeros else.
pub record IsTables (t : List ℕ) : Type 0 where
  pub long : length t ≡ 1024
  pub entry : (j b r : ℕ) → j < 4 → b < 256 → r < 4 → row_of r (octet t (256 * j + b)) ≡ octet mixer ((r + 4 - j) % 4) • sbox b
