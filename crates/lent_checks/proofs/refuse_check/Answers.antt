-- `refuse_check` is right because the word and the notes both have the number of the answer.
-- Assumes nothing.
use Prim.Native.Nat.{ℕ}
use mathlib.Core.Path.{ap, ◌∙◌}
use Rattle.lent.specs.Word.{word}
use Rattle.notes.specs.Noting.{lent_notes, noted_check}
use Rattle.lent_checks.proofs.refuse_check.Goals as goal

pub returns : goal.returns
returns c = let g = c.args in (
  c.word.ensures ∙ ap (λ (a : ℕ). word a 0 0) c.count_answer-answer.ensures,
  c.after_check.ensures ∙ ap (λ (a : ℕ). noted_check (lent_notes g.notes g.events.now) g.desk a 0 0) c.count_answer-answer.ensures,
)

pub count_answer-answer-requires : goal.count_answer-answer-requires
count_answer-answer-requires c = tt

pub word-requires : goal.word-requires
word-requires c = tt

pub after_check-requires : goal.after_check-requires
after_check-requires c = tt
