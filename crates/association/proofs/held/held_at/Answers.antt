-- `held_at` is right because each field is read where the definition reads it.
-- Assumes nothing.
use Rattle.image.specs.Image.{body_of}
use Rattle.association.specs.Association.{held}
use Rattle.association.proofs.held.held_at.Goals as goal

pub returns : goal.returns
unfolding held body_of
returns c = rw (
  c.naming_of.ensures,
  c.key_of.ensures,
  c.mask_of.ensures,
  c.window_of.ensures,
  c.service_of.ensures,
  c.body_at-at.ensures.0,
  c.version_of-version.ensures,
)
