-- Document 02, request 11, when a command to the notes answers 0, and when another. It reports the answer of the first rule in the paper's order
-- that is broken, and 0 if none is. The rules stand here as plain propositions on the command's own octets. It supposes only that the
-- image's numbers are octets: any notes may be lent, and any list for their events.
-- Assumes nothing.
use Rattle.std.specs.Prelude.{ℕ, ◌+◌, ◌*◌, ◌/◌, ◌≤◌, min, cond, ◌≡◌, List, eqb, length}
use Rattle.octets.specs.Lists.{octet, Octets}
use Rattle.octets.specs.Numbers.{number_at}
use Rattle.judging.specs.declared.answers.Refusal.TheVariants as answer
use Rattle.notes.specs.Noting.{LentNotes}
use Rattle.noting.specs.Noted.{command_noted}
use Rattle.promises.specs.Answers.{Rules, rule, no_more, report_of, Exactly}
use Rattle.promises.specs.Images.{ImageRules, Agreeing}
use Rattle.noted_promises.specs.Refusals.{ForLog, ForNotes}

-- ---- the log that is lent: three octets an event, at most 256 of them, and no more kept than the list has room for

abbrev pub room_in : LentNotes → ℕ
room_in n = min (length n.events / 3) 256

abbrev pub kept_in : LentNotes → ℕ
kept_in n = min n.notes.log.kept (room_in n)

-- ---- the rules

-- 19: one of the three desks; and dump and erase, which the first octet tells whatever the length, from the key office's
pub record DeskRules (desk : ℕ) (command : List ℕ) : Type 0 where
  pub known : desk ≤ 2
  pub office : ForLog command → desk ≡ 0

-- 13: nothing stands behind the length field, and it says so
pub record Bare (command : List ℕ) : Type 0 where
  pub long : length command ≡ 3
  pub field : number_at 1 2 command ≡ 0

-- 6: a dump tells five octets an event, an erase has seven in all, and an alarm reset has no reply
abbrev pub reply_size : LentNotes → List ℕ → ℕ
reply_size n command = cond (eqb (octet command 0) 0x33) (3 + 5 * kept_in n) (cond (eqb (octet command 0) 0x34) 7 0)

-- in the order 1, 2, 19, 13, 6
abbrev pub note_rules : LentNotes → List ℕ → List ℕ → ℕ → List ℕ → List ℕ → Rules
note_rules n image numbers desk command output =
    rule answer.BadImage (ImageRules image)
    (rule answer.BadMarks (Agreeing image numbers)
    (rule answer.WrongDesk (DeskRules desk command)
    (rule answer.BadCommand (Bare command)
    (rule answer.NoRoom (reply_size n command ≤ length output)
    no_more))))

pub record NoteCommandAnswers : Type 0 where
  pub commanding : (n : LentNotes) (image numbers : List ℕ) (desk : ℕ) (command output : List ℕ) → Octets image → ForNotes command
      → Exactly (note_rules n image numbers desk command output) (report_of (command_noted n image numbers desk command output).left)
