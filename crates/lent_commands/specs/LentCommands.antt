-- Document 02, requests 5 and 11: a command and its cut as C calls them, the command with the notes that it lends: the ones of noting's specs/Noted
-- and of commands' specs/Commanding on the lent numbers, if they are 32; a refused count is noted as any other answer.
-- Assumes nothing.
use Rattle.std.specs.Prelude.{ℕ, ◌≡◌, List, length, take}
use Rattle.link.specs.Calls.{cut}
use Rattle.commands.specs.Commanding.{made_by, command_reply}
use Rattle.notes.specs.Noting.{LentNotes, lent_notes, log_in}
use Rattle.notes.specs.declared.Notes.{Notes}
use Rattle.noting.specs.Noted.{Noted, commanded_with, command_left}
use Rattle.lent.specs.Interface.{counted, NotedReturned}

unfoldable pub command_call : LentNotes → List ℕ → List ℕ → ℕ → List ℕ → List ℕ → Noted
command_call notes image numbers desk command output =
    command_left notes desk command (counted image numbers output (commanded_with (log_in notes) image numbers desk command output))

-- from what it is lent and told to what it returns and leaves
abbrev pub Commands : Notes → List ℕ → List ℕ → List ℕ → ℕ → List ℕ → List ℕ → ℕ → Notes → List ℕ → List ℕ → List ℕ → List ℕ → Type 0
Commands notes events image numbers desk command output =
    NotedReturned (command_call (lent_notes notes events) image numbers desk command output)

-- cut after j stores: the number of those that were made, and the image
pub record CutShort (image numbers : List ℕ) (desk : ℕ) (command : List ℕ) (room j : ℕ) (r : ℕ) (i : List ℕ) : Type 0 where
  pub counted : length numbers ≡ 32
      → (r ≡ length (take j (made_by (command_reply image numbers desk command room)))) × (i ≡ cut (command_reply image numbers desk command room) image j)
  pub miscounted : (length numbers ≡ 32 → ⊥) → (r ≡ 0) × (i ≡ image)
