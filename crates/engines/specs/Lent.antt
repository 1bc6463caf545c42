-- What a caller lends to say which engine makes its blocks.
-- Assumes nothing.
use Rattle.std.specs.Prelude.{List, ℕ, ◌<◌, length}
use Rattle.word_tables.specs.Tables.{IsTables}

-- the tables of the engine on words, or nothing, for the engine on octets
pub record Lent (t : List ℕ) : Type 0 where
  pub tables : 0 < length t → IsTables t
