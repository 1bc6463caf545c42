-- `command_noted` is right because the notes are made from the outcome and the first octet.
-- Assumes nothing.
use Rattle.notes.specs.Noting.{lent_notes, log_in}
use Rattle.noting.specs.Noted.{commanded_with, command_noted}
use Rattle.noting.proofs.Told.{command-told}
use Rattle.noting.proofs.command_noted.Goals as goal

pub returns : goal.returns
unfolding command_noted
returns c = let g = c.args in
    let before = lent_notes g.notes g.events.now in
    command-told before c.note_command.result c.command_with-outcome.result _ _ _
    (commanded_with (log_in before) g.image.now g.numbers.last g.desk g.command.now g.output.now)
    c.note_command.ensures.0 c.command_with-outcome.ensures
    g.desk g.command.now c.octet_at-tag.result c.note_command.ensures.1 c.octet_at-tag.ensures
