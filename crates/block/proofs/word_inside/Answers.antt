-- `word_inside` is right because the number of eight octets is that of the first four, four places up, and that of the last.
-- Assumes nothing.
use Rattle.block.proofs.Halves.{word_joined}
use Rattle.std.proofs.Common.{arith}
use Rattle.block.proofs.word_inside.Goals as goal

pub returns : goal.returns
returns c = let given = c.args in
    word_joined given.at c.from_be_bytes-high.result c.from_be_bytes-low.result given.s.now (omega arith) (omega arith)
