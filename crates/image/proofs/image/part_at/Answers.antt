-- `part_at` is right because the key part stands where a body behind the last would.
-- Assumes nothing.
use Rattle.image.specs.Image.{part_at}
use Rattle.image.proofs.image.part_at.Goals as goal

pub returns : goal.returns
unfolding part_at
returns c = rw (← c.version_of.ensures, ← c.layout_of.ensures.0, ← c.count_of-count.ensures) c.body_place.ensures
