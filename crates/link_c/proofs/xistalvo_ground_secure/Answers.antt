-- `xistalvo_ground_secure` is right because it is `ground_secure_lent`.
-- Assumes nothing.
use Rattle.link_c.proofs.xistalvo_ground_secure.Goals as goal

pub returns : goal.returns
returns c = c.ground_secure_lent.ensures

pub ground_secure_lent-requires : goal.ground_secure_lent-requires
ground_secure_lent-requires c = tt
