-- Document 02, request 11: a check and a command with the caller's notes. What each leaves of image, numbers and output is what it left before;
-- above that stand the notes, which depend on the call's answer. A load, a securing and a call that is cut leave them as they were.
-- Assumes nothing.
use Rattle.std.specs.Prelude.{ℕ, ◌%◌, cond, List}
use Rattle.protection.specs.Protection.{spi_in}
use Rattle.judging.specs.Said.{Said, kind_said}
use Rattle.link.specs.Calls.{Left, leaving, matched_number, checked}
use Rattle.command_form.specs.Form.{tag_of}
use Rattle.commands.specs.Commanding.{commanded}
use Rattle.event_log.specs.Held.{LentLog}
use Rattle.notes.specs.Noting.{LentNotes, lent_notes, log_in, noted_check, noted_command}
use Rattle.note_commands.specs.NoteCommands.{for_notes, note_commanded}
use Rattle.noting.specs.declared.noted.NotedOutcome.{NotedOutcome}

pub record Noted : Type 0 where
  pub left : Left
  pub notes : LentNotes

-- what the code's outcome and notes, image, output and events at its return say
abbrev pub leaving_noted : NotedOutcome → List ℕ → List ℕ → List ℕ → Noted
leaving_noted r image output events = record { left = leaving r.outcome image output; notes = lent_notes r.notes events }

-- ---- checking: notes, image, numbers, what is said of the frame, secured frame, output

-- from what the check left: the SPI that the frame holds, and the low octet of the number that the entry which it matches has afterwards
abbrev pub check_left : LentNotes → List ℕ → List ℕ → Said → List ℕ → Left → Noted
check_left n image last said frame x =
    record {
      left = x;
      notes = noted_check n said.desk x.answer (spi_in (kind_said said) frame) (matched_number image last said frame x.numbers % 256);
    }

unfoldable pub check_noted : LentNotes → List ℕ → List ℕ → Said → List ℕ → List ℕ → Noted
check_noted n image last said frame output = check_left n image last said frame (checked image last said frame output)

-- ---- a command: notes, image, numbers, desk, command, output

-- what it leaves of the rest: a command to the notes is carried out by itself, and every other as it was
abbrev pub commanded_with : LentLog → List ℕ → List ℕ → ℕ → List ℕ → List ℕ → Left
commanded_with log image last desk command output =
    cond (for_notes (tag_of command)) (note_commanded log image last desk command output) (commanded image last desk command output)

abbrev pub command_left : LentNotes → ℕ → List ℕ → Left → Noted
command_left n desk command x = record { left = x; notes = noted_command n desk (tag_of command) x.answer }

unfoldable pub command_noted : LentNotes → List ℕ → List ℕ → ℕ → List ℕ → List ℕ → Noted
command_noted n image last desk command output = command_left n desk command (commanded_with (log_in n) image last desk command output)
