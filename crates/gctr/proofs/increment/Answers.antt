-- The last 32 bits of the block are those of its low half.
-- Assumes nothing.
use Rattle.std.proofs.Common.{arith}
use Rattle.gctr.specs.Increment.{inc32}
use Rattle.gctr.proofs.increment.Goals as goal

pub returns : goal.returns
unfolding inc32
returns c = omega arith
