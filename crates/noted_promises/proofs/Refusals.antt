-- A refusal changes the notes alone: what a call leaves beside them is what the same call leaves without them, and a command to the notes
-- that is refused leaves everything as it was.
-- Assumes nothing.
use Prim.Native.Nat.{ℕ}
use mathlib.Core.Path.{◌≡◌, refl}
use mathlib.Core.Logic.{inl, inr}
use mathlib.Core.Bool.{Bool, true, false, cond}
use mathlib.Core.List.{List}
use native.Mathlib.Decide.{ℕ_discrete}
use borrow.Author.Tests.{ne_eqb}
use lib.Dec.{eqb}
use lib.ListN.{length}
use Rattle.octets.specs.Lists.{octet}
use Rattle.judging.specs.Answers.{first}
use Rattle.judging.specs.Said.{Said}
use Rattle.link.specs.Calls.{refused, checked}
use Rattle.command_form.specs.Form.{tag_of}
use Rattle.commands.specs.Commanding.{commanded}
use Rattle.notes.specs.Noting.{LentNotes, log_in, noted_command}
use Rattle.note_commands.specs.NoteCommands.{for_notes, note_reply, note_tests, replied, note_commanded}
use Rattle.noting.specs.Noted.{check_noted, command_noted}
use Rattle.promises.specs.Refusals.{Untouched}
use Rattle.promises.proofs.Refusals.{refusals}
use Rattle.command_promises.proofs.Refusals.{command_refusals}
use Rattle.noted_promises.specs.Refusals.{ForNotes, NotedRefusals}

-- ---- which command is for the notes

pub not_for_notes : (command : List ℕ) → (ForNotes command → ⊥) → for_notes (tag_of command) ≡ false
not_for_notes command other =
    rw (
      ne_eqb (tag_of command) 0x33 (λ e. other (inl (inl e))),
      ne_eqb (tag_of command) 0x34 (λ e. other (inl (inr e))),
      ne_eqb (tag_of command) 0x37 (λ e. other (inr e)),
    )

pub for_notes_lem : (command : List ℕ) → Dec (ForNotes command)
for_notes_lem command = by-tag (ℕ_discrete (octet command 0) 0x33) (ℕ_discrete (octet command 0) 0x34) (ℕ_discrete (octet command 0) 0x37)
  where
    by-tag : Dec (octet command 0 ≡ 0x33) → Dec (octet command 0 ≡ 0x34) → Dec (octet command 0 ≡ 0x37) → Dec (ForNotes command)
    by-tag (yes e) b c = yes (inl (inl e))
    by-tag (no d) (yes e) c = yes (inl (inr e))
    by-tag (no d) (no f) (yes e) = yes (inr e)
    by-tag (no d) (no f) (no g) = no none
      where
        none : ForNotes command → ⊥
        none (inl (inl e)) = d e
        none (inl (inr e)) = f e
        none (inr e) = g e

-- ---- beside the notes

module _ (n : LentNotes) (image numbers : List ℕ) (desk : ℕ) (command output : List ℕ) where
  pub command-same : (ForNotes command → ⊥) → (command_noted n image numbers desk command output).left ≡ commanded image numbers desk command output
  unfolding command_noted
  command-same other = rw (not_for_notes command other)

  -- the notes are made from the answer
  pub command-notes : let y = command_noted n image numbers desk command output in y.notes ≡ noted_command n desk (octet command 0) y.left.answer
  unfolding command_noted
  command-notes = refl

  note_untouched : let x = note_commanded (log_in n) image numbers desk command output in
      (x.answer ≡ 0 → ⊥) → Untouched image numbers output x
  unfolding note_commanded
  note_untouched =
      by_test (first (note_tests (log_in n) image numbers desk command (length output)))
      (eqb (first (note_tests (log_in n) image numbers desk command (length output))) 0)
    where
      by_test : (answer : ℕ) (t : Bool)
          → let x = cond t (replied (note_reply (log_in n) (tag_of command)) image numbers output) (refused answer image numbers output) in
          (x.answer ≡ 0 → ⊥) → Untouched image numbers output x
      by_test answer true refuse = absurd (refuse refl)
      by_test answer false refuse = record { length = refl; stores = refl; images = refl; lasts = refl; outputs = refl }

  command-untouched : let x = (command_noted n image numbers desk command output).left in (x.answer ≡ 0 → ⊥) → Untouched image numbers output x
  unfolding command_noted
  command-untouched = by-tag (for_notes (tag_of command))
    where
      by-tag : (t : Bool)
          → let x = cond t (note_commanded (log_in n) image numbers desk command output) (commanded image numbers desk command output) in
          (x.answer ≡ 0 → ⊥) → Untouched image numbers output x
      by-tag true = note_untouched
      by-tag false = command_refusals.whole image numbers desk command output

pub check-same : (n : LentNotes) (image numbers : List ℕ) (said : Said) (frame output : List ℕ)
    → (check_noted n image numbers said frame output).left ≡ checked image numbers said frame output
unfolding check_noted
check-same n image numbers said frame output = refl

-- ---- all of them

pub noted_refusals : NotedRefusals
unfolding check_noted
noted_refusals =
    record {
      checking = λ n image numbers said frame output. refusals.checking image numbers said frame output;
      commanding = command-untouched;
      check_same = check-same;
      command_same = command-same;
    }
