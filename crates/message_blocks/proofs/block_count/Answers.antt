-- `block_count` is right because n / 16, rounded up, is (n - 1) / 16 + 1 for n from 1.
-- Assumes nothing.
use native.Mathlib.Omega.{arith}
use Rattle.message_blocks.proofs.Cuts.{count-is}
use Rattle.message_blocks.proofs.block_count.Goals as goal

pub returns : goal.returns
returns c = omega (arith, count-is c.args.length)
