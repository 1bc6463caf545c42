-- `note_check` is right because the notes are made from the number of the answer.
-- Assumes nothing.
use Prim.Native.Nat.{ℕ, ◌%◌}
use mathlib.Core.Path.{refl, ap, ◌∙◌}
use Rattle.judging.specs.Answers.{Reported}
use Rattle.notes.specs.Noting.{lent_notes, noted_check}
use Rattle.noting.proofs.noted.note_check.Goals as goal

pub returns : goal.returns
returns c = let g = c.args in
    let before = lent_notes g.notes g.events.now in
    (refl, c.after_check.ensures ∙ ap (λ (a : ℕ). noted_check before g.desk a g.spi (g.number % 256)) (ap (λ (t : Reported). t.number) c.report_of-told.ensures))
