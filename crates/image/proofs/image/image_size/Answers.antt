-- `image_size` is right because behind the last key, or the last body, the image ends.
-- Assumes nothing.
use mathlib.Core.Path.{sym, ◌∙◌}
use native.Mathlib.Nat.{add-zero}
use Rattle.image.specs.Image.{image_size}
use Rattle.image.proofs.image.image_size.Goals as goal

pub returns-then-has_part : goal.returns-then-has_part
unfolding image_size
returns-then-has_part c = simp (sym c.has_part.ensures ∙ c.if-has_part.true) (cc)

pub returns : goal.returns
unfolding image_size
returns c = simp (sym c.has_part.ensures ∙ c.if-has_part.false, add-zero) (cc)
