-- `xistalvo_raise` is right because it is `raise`.
-- Assumes nothing.
use Rattle.link_c.proofs.xistalvo_raise.Goals as goal

pub returns : goal.returns
returns c = c.raise.ensures

pub raise-requires : goal.raise-requires
raise-requires c = tt
