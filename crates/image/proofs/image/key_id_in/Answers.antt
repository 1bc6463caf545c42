-- `key_id_in` is right because it reads the body of the entry.
-- Assumes nothing.
use Rattle.image.specs.Image.{body_of}
use Rattle.image.proofs.image.key_id_in.Goals as goal

pub returns : goal.returns
unfolding body_of
returns c = rw (← c.body_at.ensures.0, ← c.version_of.ensures) c.key_id_of.ensures
