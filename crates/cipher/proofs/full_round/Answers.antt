-- `full_round` is right from what the four steps ensure.
-- Assumes nothing.
use Rattle.cipher.specs.Cipher.{round}
use Rattle.cipher.proofs.full_round.Goals as goal

pub returns : goal.returns
unfolding round
returns c = cc
