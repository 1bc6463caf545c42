-- `idle_at` is right because it makes the two tests of the definition.
-- Assumes nothing.
use Rattle.image.specs.Image.{body_of}
use Rattle.named_keys.proofs.idle_at.Goals as goal

pub returns : goal.returns
unfolding body_of
returns c = rw (
  c.key_id_in.ensures,
  c.state_of-state.ensures,
  c.body_at.ensures.0,
  c.version_of.ensures,
)
