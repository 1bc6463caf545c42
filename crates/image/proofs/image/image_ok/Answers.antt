-- `image_ok` is right because the tests decide in the order of the definition, and a layout that is not right decides alone.
-- Assumes nothing.
use mathlib.Core.Path.{sym, ◌∙◌}
use Rattle.image.specs.Image.{valid_image}
use Rattle.image.proofs.image.image_ok.Goals as goal

pub returns-then-laid_out : goal.returns-then-laid_out
unfolding valid_image
returns-then-laid_out c = simp (sym c.laid_out.ensures ∙ c.if-laid_out.true)
    (rw (c.keys_ok.ensures, c.entries_ok.ensures))

pub returns : goal.returns
unfolding valid_image
returns c = simp (sym c.laid_out.ensures ∙ c.if-laid_out.false)
