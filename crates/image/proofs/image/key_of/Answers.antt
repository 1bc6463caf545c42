-- `key_of` is right because the layout decides where the key stands.
-- Assumes nothing.
use mathlib.Core.Path.{sym, ◌∙◌}
use Rattle.image.specs.Image.{key_of}
use Rattle.image.proofs.image.key_of.Goals as goal

pub returns-then-has_part : goal.returns-then-has_part
unfolding key_of
returns-then-has_part c = simp (sym c.has_part.ensures ∙ c.if-has_part.true)
    (rw (← c.key_id_in.ensures, ← c.key_count.ensures, ← c.part_at.ensures.0) c.key_under.ensures)

pub returns : goal.returns
unfolding key_of
returns c = simp (sym c.has_part.ensures ∙ c.if-has_part.false) c.key_in_body.ensures
