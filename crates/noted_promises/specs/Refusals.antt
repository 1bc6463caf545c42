-- Demand 1, from document 02, request 11, on: a refusal may change the notes and nothing else. Whatever is handed in, a check or a command that
-- lends notes and does not answer 0 reports length 0 and 0 stores, and leaves the image, the numbers and the output as they were. Beside
-- the notes a check leaves what it left without them, and so does a command that is not for the notes (first octets 33, 34 and 37): what is
-- promised of a call without notes holds of the call with them. A load, a securing and a call that is cut are handed no notes. It supposes
-- nothing.
-- Assumes nothing.
use Rattle.std.specs.Prelude.{ℕ, ◌≡◌, ◌⊎◌, List}
use Rattle.octets.specs.Lists.{octet}
use Rattle.link.specs.Calls.{checked}
use Rattle.judging.specs.Said.{Said}
use Rattle.commands.specs.Commanding.{commanded}
use Rattle.notes.specs.Noting.{LentNotes}
use Rattle.noting.specs.Noted.{check_noted, command_noted}
use Rattle.promises.specs.Refusals.{Untouched}

-- dump and erase, which are for the log; and alarm reset: by the first octet, whatever else the command has
abbrev pub ForLog : List ℕ → Type 0
ForLog command = (octet command 0 ≡ 0x33) ⊎ (octet command 0 ≡ 0x34)

abbrev pub ForNotes : List ℕ → Type 0
ForNotes command = ForLog command ⊎ (octet command 0 ≡ 0x37)

pub record NotedRefusals : Type 0 where
  pub checking : (n : LentNotes) (image numbers : List ℕ) (said : Said) (frame output : List ℕ)
      → let x = (check_noted n image numbers said frame output).left in
      (x.answer ≡ 0 → ⊥) → Untouched image numbers output x
  pub commanding : (n : LentNotes) (image numbers : List ℕ) (desk : ℕ) (command output : List ℕ)
      → let x = (command_noted n image numbers desk command output).left in
      (x.answer ≡ 0 → ⊥) → Untouched image numbers output x
  pub check_same : (n : LentNotes) (image numbers : List ℕ) (said : Said) (frame output : List ℕ)
      → (check_noted n image numbers said frame output).left ≡ checked image numbers said frame output
  pub command_same : (n : LentNotes) (image numbers : List ℕ) (desk : ℕ) (command output : List ℕ) → (ForNotes command → ⊥)
      → (command_noted n image numbers desk command output).left ≡ commanded image numbers desk command output
