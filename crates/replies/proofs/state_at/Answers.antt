-- `state_at` is right because the body stands where the definition has it.
-- Assumes nothing.
use Rattle.image.specs.Image.{body_of}
use Rattle.replies.proofs.state_at.Goals as goal

pub returns : goal.returns
unfolding body_of
returns c = rw (c.state_of.ensures, c.body_at.ensures.0, c.version_of.ensures)
