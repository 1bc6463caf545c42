-- A command to the notes leaves image and numbers as they were, and reports no store.
-- Assumes nothing.
use Prim.Native.Nat.{ℕ}
use mathlib.Core.Path.{◌≡◌, refl}
use mathlib.Core.Bool.{Bool, true, false, cond}
use mathlib.Core.List.{List}
use lib.Dec.{eqb}
use lib.ListN.{length}
use Rattle.judging.specs.Answers.{first}
use Rattle.link.specs.Calls.{refused}
use Rattle.command_form.specs.Form.{tag_of}
use Rattle.event_log.specs.Held.{LentLog}
use Rattle.note_commands.specs.NoteCommands.{note_reply, note_tests, replied, note_commanded}

module _ (log : LentLog) (image last : List ℕ) (desk : ℕ) (command output : List ℕ) where
  pub unstored : let x = note_commanded log image last desk command output in (x.image ≡ image) × (x.numbers ≡ last) × (x.stores ≡ 0)
  unfolding note_commanded
  unstored =
      by_test (first (note_tests log image last desk command (length output)))
      (eqb (first (note_tests log image last desk command (length output))) 0)
    where
      by_test : (answer : ℕ) (t : Bool) → let x = cond t (replied (note_reply log (tag_of command)) image last output) (refused answer image last output) in
          (x.image ≡ image) × (x.numbers ≡ last) × (x.stores ≡ 0)
      by_test answer true = (refl, refl, refl)
      by_test answer false = (refl, refl, refl)
