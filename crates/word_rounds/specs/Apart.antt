-- The four tables of crate `word_tables`, each by itself.
-- Assumes nothing.
use Rattle.std.specs.Prelude.{◌≡◌, List, ℕ, ◌+◌, ◌-◌, ◌%◌, ◌<◌, length}
use Rattle.octets.specs.Lists.{octet}
use Rattle.substitution.specs.Field.{◌•◌}
use Rattle.substitution.specs.Sbox.{sbox}
use Rattle.cipher.specs.MixColumns.{mixer}
use Rattle.columns.specs.Words.{row_of}

-- table j
pub record IsTable (j : ℕ) (t : List ℕ) : Type 0 where
  pub long : length t ≡ 256
  pub entry : (b r : ℕ) → b < 256 → r < 4 → row_of r (octet t b) ≡ octet mixer ((r + 4 - j) % 4) • sbox b

-- all four
pub record AreTables (first second third fourth : List ℕ) : Type 0 where
  pub at_first : IsTable 0 first
  pub at_second : IsTable 1 second
  pub at-third : IsTable 2 third
  pub at-fourth : IsTable 3 fourth
