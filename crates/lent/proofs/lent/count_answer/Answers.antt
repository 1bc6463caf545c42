-- `count_answer` is right because its test is the definition's.
-- Assumes nothing.
use mathlib.Core.Path.{sym, ◌∙◌}
use Rattle.lent.proofs.lent.count_answer.Goals as goal

pub returns-then-image_ok : goal.returns-then-image_ok
returns-then-image_ok c = rw (sym c.image_ok.ensures ∙ c.if-image_ok.true)

pub returns : goal.returns
returns c = rw (sym c.image_ok.ensures ∙ c.if-image_ok.false)

pub image_ok-requires : goal.image_ok-requires
image_ok-requires c = tt
