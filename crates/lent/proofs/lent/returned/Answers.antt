-- `returned` is right because the answer is packed and the numbers are handed back.
-- Assumes nothing.
use Rattle.lent.proofs.lent.returned.Goals as goal

pub returns : goal.returns
returns c = (c.pack.ensures, c.hand_back.ensures)

pub pack-requires : goal.pack-requires
pack-requires c = tt
