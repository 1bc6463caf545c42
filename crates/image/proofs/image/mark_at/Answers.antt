-- `mark_at` is right because it asks for the place by version and count.
-- Assumes nothing.
use Rattle.image.specs.Image.{body_at, mark_at}
use Rattle.image.proofs.image.mark_at.Goals as goal

pub returns : goal.returns
unfolding mark_at body_at
returns c = rw (c.mark_place.ensures, c.count_of.ensures, c.layout_of.ensures.0, c.version_of.ensures)
