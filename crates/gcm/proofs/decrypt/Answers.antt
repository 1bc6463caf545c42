-- The call under an expanded key, under the expansion of the key.
-- Assumes nothing.
use Rattle.gcm.specs.Calls.{decrypted}
use Rattle.gcm.proofs.decrypt.Goals as goal

pub returns : goal.returns
unfolding decrypted
returns c = cc
