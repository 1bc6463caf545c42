-- `xistalvo_secure` is right because it is `secure_lent`.
-- Assumes nothing.
use Rattle.link_c.proofs.xistalvo_secure.Goals as goal

pub returns : goal.returns
returns c = c.secure_lent.ensures

pub secure_lent-requires : goal.secure_lent-requires
secure_lent-requires c = tt
