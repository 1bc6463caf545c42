-- `entry_at` is right because each field is read where the definition reads it.
-- Assumes nothing.
use Rattle.image.specs.Image.{body_of}
use Rattle.association.specs.Association.{entry_of}
use Rattle.association.proofs.entry.entry_at.Goals as goal

pub returns : goal.returns
unfolding entry_of body_of
returns c = rw (
  c.mark_in.ensures,
  c.window_of.ensures,
  c.state_of.ensures,
  c.direction_of.ensures,
  c.kind_in.ensures,
  c.service_of.ensures,
  c.spi_of.ensures,
  c.body_at-at.ensures.0,
  c.version_of-version.ensures,
)
