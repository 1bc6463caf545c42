-- `keys_ok` is right because it joins the three tests of a version with a key part, and asks nothing of another.
-- Assumes nothing.
use mathlib.Core.Path.{sym, ◌∙◌}
use Rattle.image.specs.Image.{keys_ok}
use Rattle.image.proofs.image.keys_ok.Goals as goal

pub returns-then-has_part : goal.returns-then-has_part
unfolding keys_ok
returns-then-has_part c = simp (sym c.has_part.ensures ∙ c.if-has_part.true)
    (rw (
      c.bodies_keyed.ensures,
      c.key_part_ok.ensures,
      c.key_count.ensures,
      c.part_at.ensures.0,
      c.last_ok.ensures,
    ))

pub returns : goal.returns
unfolding keys_ok
returns c = simp (sym c.has_part.ensures ∙ c.if-has_part.false)
