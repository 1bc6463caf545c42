-- `encrypt` is right from what the expansion and the cipher ensure.
-- Assumes nothing.
use Rattle.cipher.specs.Cipher.Opened.{aes256-is}
use Rattle.cipher.proofs.encrypt.Goals as goal

pub returns : goal.returns
returns c = let given = c.args in
    cc (aes256-is given.key given.block)
