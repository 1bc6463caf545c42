-- `engines_agree` is right because both blocks are AES-256 of the same key and block.
-- Assumes nothing.
use Rattle.octets.proofs.Sameness.{same_refl}
use Rattle.cipher.specs.Cipher.{aes256}
use Rattle.engines.proofs.engines_agree.Goals as goal

pub returns : goal.returns
returns c = let given = c.args in
    cc (same_refl (aes256 given.key given.block))
