-- What inner functions find, for their own contracts. No definition of a command cites this file, and no promise does.
-- Assumes nothing.
use Rattle.std.specs.Prelude.{ℕ, ◌≡◌, true, List}
use Rattle.procedures.specs.Procedures.{Procedure}

-- the number of a procedure that may be carried out
abbrev pub Renumbered : Procedure → ℕ → List ℕ → ℕ → Type 0
Renumbered p last value n = (version : ℕ) (body : List ℕ) → p.allows version body last value ≡ true → n ≡ p.number last value
