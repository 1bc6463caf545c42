-- `mark_in` is right because it decodes the code that the body holds.
-- Assumes nothing.
use Rattle.image.specs.Image.{body_of, mark_in}
use Rattle.image.proofs.image.mark_in.Goals as goal

pub returns : goal.returns
unfolding mark_in body_of
returns c = rw (c.mark_of.ensures, c.code_of.ensures, c.body_at.ensures.0, c.version_of.ensures)
