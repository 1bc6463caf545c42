-- `mask_ok` is right because it makes the two tests of the definition on the mask.
-- Assumes nothing.
use Rattle.bodies.proofs.body.mask_ok.Goals as goal

pub returns : goal.returns
returns c = rw (c.octet_at.ensures, c.under_mask-covered.ensures, c.mask_of-mask.ensures)
