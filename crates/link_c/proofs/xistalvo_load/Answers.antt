-- `xistalvo_load` is right because it is `load_lent`.
-- Assumes nothing.
use Rattle.link_c.proofs.xistalvo_load.Goals as goal

pub returns : goal.returns
returns c = c.load_lent.ensures

pub load_lent-requires : goal.load_lent-requires
load_lent-requires c = tt
