-- `note_command` is right because the notes are made from the number of the answer.
-- Assumes nothing.
use mathlib.Core.Path.{refl, ap, ◌∙◌}
use Rattle.judging.specs.Answers.{Reported}
use Rattle.notes.specs.Noting.{lent_notes, noted_command}
use Rattle.noting.proofs.noted.note_command.Goals as goal

pub returns : goal.returns
returns c = let g = c.args in
    let before = lent_notes g.notes g.events.now in
    (refl, c.after_command.ensures ∙ ap (noted_command before g.desk g.tag) (ap (λ (t : Reported). t.number) c.report_of-told.ensures))
