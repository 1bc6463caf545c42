-- `body_at` is right because it asks for the place by version and count.
-- Assumes nothing.
use Rattle.image.specs.Image.{body_at}
use Rattle.image.proofs.image.body_at.Goals as goal

pub returns : goal.returns
unfolding body_at
returns c = rw (← c.version_of.ensures, ← c.layout_of.ensures.0, ← c.count_of.ensures) c.body_place.ensures
