-- Document 02, request 11: a check as C calls it, with the notes that it lends: the one of noting's specs/Noted on the lent numbers, if they are 32;
-- a refused count is noted as any other answer.
-- Assumes nothing.
use Rattle.std.specs.Prelude.{ℕ, List}
use Rattle.link.specs.Calls.{checked}
use Rattle.judging.specs.Said.{Said}
use Rattle.notes.specs.Noting.{LentNotes, lent_notes}
use Rattle.notes.specs.declared.Notes.{Notes}
use Rattle.noting.specs.Noted.{Noted, check_left}
use Rattle.lent.specs.Interface.{told, counted, NotedReturned}

unfoldable pub check_call : LentNotes → List ℕ → List ℕ → Said → List ℕ → List ℕ → Noted
check_call notes image numbers said frame output =
    check_left notes image numbers said frame (counted image numbers output (checked image numbers said frame output))

-- from what it is lent and told to what it returns and leaves
abbrev pub Checks : Notes → List ℕ → List ℕ → List ℕ → ℕ → ℕ → ℕ → List ℕ → List ℕ → ℕ → Notes → List ℕ → List ℕ → List ℕ → List ℕ → Type 0
Checks notes events image numbers desk kind field frame output =
    NotedReturned (check_call (lent_notes notes events) image numbers (told desk kind field) frame output)
