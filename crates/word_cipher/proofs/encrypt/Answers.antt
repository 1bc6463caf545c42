-- `encrypt` is right from what the tables, the expansion and the cipher ensure.
-- Assumes nothing.
use Rattle.cipher.proofs.Laws.{under_expanded}
use Rattle.word_cipher.proofs.encrypt.Goals as goal

pub returns : goal.returns
returns c = let given = c.args in
    cc (under_expanded given.key given.block)
