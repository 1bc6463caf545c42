-- A text at the front of an output.
-- Assumes nothing.
use Rattle.std.specs.Prelude.{ℕ, cond, List, ◌++◌, leb, length, drop}

-- as many octets as the text has are the text's, and those behind them stay as they were
abbrev pub written : List ℕ → List ℕ → List ℕ
written text out = text ++ drop (length text) out

-- the same of an output that has room for the text; an output without room stays whole
unfoldable pub fronted : List ℕ → List ℕ → List ℕ
fronted text out = cond (leb (length text) (length out)) (written text out) out
