-- `start_allowed` is right because it joins the two tests that the definition joins.
-- Assumes nothing.
use Rattle.image.specs.Image.{body_of}
use Rattle.conditions.proofs.start_allowed.Goals as goal

pub returns : goal.returns
unfolding body_of
returns c = rw (
  c.window_fits.ensures,
  c.window_of.ensures,
  c.channels_right.ensures,
  c.body_at-at.ensures.0,
  c.version_of-version.ensures,
)
