-- `command_with` is right because its first octet takes a command to the notes or to the image, as the definition says.
-- Assumes nothing.
use mathlib.Core.Path.{◌≡◌, sym, ap, ◌∙◌}
use mathlib.Core.Bool.{Bool}
use mathlib.Core.List.{List}
use Prim.Native.Nat.{ℕ}
use Rattle.command_form.specs.Form.{tag_of}
use Rattle.event_log.specs.Held.{lent_log}
use Rattle.note_commands.specs.NoteCommands.{for_notes}
use Rattle.noting.proofs.Told.{to-notes, to-image}
use Rattle.noting.proofs.command_with.Goals as goal

asked : {t : ℕ} {b : Bool} (command : List ℕ) → t ≡ tag_of command → b ≡ for_notes t → for_notes (tag_of command) ≡ b
asked command e f = sym (f ∙ ap for_notes e)

pub returns-then-for_notes : goal.returns-then-for_notes
returns-then-for_notes c =
    let g = c.args in
    to-notes (lent_log g.log g.events.now) g.image.now g.numbers.last g.desk g.command.now g.output.now _
    (asked g.command.now c.octet_at.ensures c.for_notes.ensures ∙ c.if-for_notes.true)
    c.command_notes.ensures

pub returns : goal.returns
returns c =
    let g = c.args in
    to-image (lent_log g.log g.events.now) g.image.now g.numbers.last g.desk g.command.now g.output.now _
    (asked g.command.now c.octet_at.ensures c.for_notes.ensures ∙ c.if-for_notes.false)
    c.command.ensures
