-- `laid_out` is right because it joins the three tests that the definition joins.
-- Assumes nothing.
use Rattle.image.specs.Image.{laid_out}
use Rattle.image.proofs.image.laid_out.Goals as goal

pub returns : goal.returns
unfolding laid_out
returns c = rw (c.image_size.ensures, c.count_of.ensures, c.version_ok.ensures, c.version_of.ensures)
