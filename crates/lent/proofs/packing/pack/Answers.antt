-- `pack` is right because the number, the length and the stores are those that the answer reports.
-- Assumes nothing.
use mathlib.Core.Path.{◌∙◌, ap}
use Rattle.judging.specs.Answers.{Reported}
use Rattle.lent.specs.Word.{word}
use Rattle.lent.proofs.packing.pack.Goals as goal

pub returns : goal.returns
returns c = c.word.ensures ∙ ap (λ (t : Reported). word t.number t.length t.stores) c.report_of-told.ensures
