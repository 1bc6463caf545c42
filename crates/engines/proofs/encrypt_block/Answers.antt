-- `encrypt_block` is right because the words of a block make the block.
-- Assumes nothing.
use Rattle.engines.proofs.encrypt_block.Goals as goal

pub returns : goal.returns
returns c = cc
