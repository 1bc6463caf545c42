-- `key_count` is right because an image without a key part has no keys.
-- Assumes nothing.
use mathlib.Core.Path.{sym, ◌∙◌}
use Rattle.image.specs.Image.{key_count}
use Rattle.image.proofs.image.key_count.Goals as goal

pub returns-then-has_part : goal.returns-then-has_part
unfolding key_count
returns-then-has_part c = simp (sym c.has_part.ensures ∙ c.if-has_part.true) (rw (← c.part_at.ensures.0) c.octet_at.ensures)

pub returns : goal.returns
unfolding key_count
returns c = simp (sym c.has_part.ensures ∙ c.if-has_part.false)
