-- The call under an expanded key, under the expansion of the key.
-- Assumes nothing.
use Rattle.gcm.specs.Calls.{sealed}
use Rattle.gcm.proofs.seal.Goals as goal

pub returns : goal.returns
unfolding sealed
returns c = cc
