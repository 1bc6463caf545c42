-- The call under an expanded key, under the expansion of the key.
-- Assumes nothing.
use Rattle.gcm.specs.Calls.{checked}
use Rattle.gcm.proofs.check.Goals as goal

pub returns : goal.returns
unfolding checked
returns c = cc
