-- `refuse_command` is right because the word and the notes both have the number of the answer.
-- Assumes nothing.
use Prim.Native.Nat.{ℕ}
use mathlib.Core.Path.{ap, ◌∙◌}
use Rattle.lent.specs.Word.{word}
use Rattle.notes.specs.Noting.{lent_notes, noted_command}
use Rattle.lent_commands.proofs.refuse_command.Goals as goal

pub returns : goal.returns
returns c = let g = c.args in (
  c.word.ensures ∙ ap (λ (a : ℕ). word a 0 0) c.count_answer-answer.ensures,
  c.after_command.ensures ∙ ap (λ (a : ℕ). noted_command (lent_notes g.notes g.events.now) g.desk g.tag a) c.count_answer-answer.ensures,
)

pub count_answer-answer-requires : goal.count_answer-answer-requires
count_answer-answer-requires c = tt

pub word-requires : goal.word-requires
word-requires c = tt

pub after_command-requires : goal.after_command-requires
after_command-requires c = tt
