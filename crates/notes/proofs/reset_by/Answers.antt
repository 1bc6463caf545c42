-- `reset_by` is right because its test is the definition's.
-- Assumes nothing.
use mathlib.Core.Path.{◌∙◌}
use Rattle.notes.proofs.reset_by.Goals as goal

pub returns-then-tag-answer : goal.returns-then-tag-answer
returns-then-tag-answer c = c.after_reset.ensures ∙ simp c.if-tag-answer.true

pub returns : goal.returns
returns c = simp c.if-tag-answer.false
