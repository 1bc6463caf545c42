-- The notes of a call are those of its definition where its outcome is; and a command goes to the notes or to the image by its first octet.
-- Assumes nothing.
use Prim.Native.Nat.{ℕ, ◌%◌}
use mathlib.Core.Path.{◌≡◌, ap, ◌∙◌}
use mathlib.Core.Bool.{true, false}
use mathlib.Core.List.{List}
use Rattle.protection.specs.Protection.{spi_in}
use Rattle.judging.specs.Answers.{reported}
use Rattle.judging.specs.Said.{Said, kind_said}
use Rattle.link.specs.Calls.{Left, leaving, matched_number}
use Rattle.link.specs.declared.outcome.Outcome.{Outcome}
use Rattle.command_form.specs.Form.{tag_of}
use Rattle.commands.specs.Commanding.{commanded}
use Rattle.event_log.specs.Held.{LentLog}
use Rattle.notes.specs.Noting.{LentNotes, lent_notes, noted_check, noted_command}
use Rattle.note_commands.specs.NoteCommands.{for_notes, note_commanded}
use Rattle.noting.specs.Noted.{leaving_noted, check_left, commanded_with, command_left}
use Rattle.noting.specs.declared.noted.NotedOutcome.{NotedOutcome}

-- ---- with the image, the output and the events at the return, where the outcome o leaves x

module _ (n : LentNotes) (r : NotedOutcome) (o : Outcome) (i u s : List ℕ) (x : Left) (same : r.outcome ≡ o) (e : leaving o i u ≡ x) where
  left : leaving r.outcome i u ≡ x
  left = ap (λ (y : Outcome). leaving y i u) same ∙ e

  answered : (reported o.answer).number ≡ x.answer
  answered = ap (λ (y : Left). y.answer) e

  pub check-told : (image last : List ℕ) (said : Said) (frame : List ℕ) (spi number : ℕ)
      → lent_notes r.notes s ≡ noted_check n said.desk (reported o.answer).number spi (number % 256)
      → spi ≡ spi_in (kind_said said) frame
      → number ≡ matched_number image last said frame o.numbers.last
      → leaving_noted r i u s ≡ check_left n image last said frame x
  check-told image last said frame spi number noted on m =
      let told : number ≡ matched_number image last said frame x.numbers =
      m ∙ ap (λ (y : Left). matched_number image last said frame y.numbers) e in
      let notes : lent_notes r.notes s ≡ (check_left n image last said frame x).notes =
      noted ∙ (λ j. noted_check n said.desk (answered j) (on j) (told j % 256)) in
      λ j. record { left = left j; notes = notes j }

  pub command-told : (desk : ℕ) (command : List ℕ) (tag : ℕ)
      → lent_notes r.notes s ≡ noted_command n desk tag (reported o.answer).number
      → tag ≡ tag_of command
      → leaving_noted r i u s ≡ command_left n desk command x
  command-told desk command tag noted t =
      let notes : lent_notes r.notes s ≡ (command_left n desk command x).notes = noted ∙ (λ j. noted_command n desk (t j) (answered j)) in
      λ j. record { left = left j; notes = notes j }

-- ---- a command to the notes, and every other

module _ (log : LentLog) (image last : List ℕ) (desk : ℕ) (command output : List ℕ) (x : Left) where
  pub to-notes : for_notes (tag_of command) ≡ true → x ≡ note_commanded log image last desk command output
      → x ≡ commanded_with log image last desk command output
  to-notes t e = rw t e

  pub to-image : for_notes (tag_of command) ≡ false → x ≡ commanded image last desk command output
      → x ≡ commanded_with log image last desk command output
  to-image t e = rw t e
