-- `put_keys` is right because each turn puts what is told of the next key behind what is told of those before it.
-- Assumes nothing.
use native.Mathlib.Omega.{arith}
use Rattle.writing.proofs.Ends.{end_none, end_more, end_within}
use Rattle.writing.proofs.Puts.{put_none, put_then}
use Rattle.inventory.specs.Inventory.{told_between}
use Rattle.inventory.proofs.put_keys.Goals as goal

pub loop-k-init : goal.loop-k-init
loop-k-init c = rw end_none (put_none _ _)

pub put_told-behind-requires : goal.put_told-behind-requires
put_told-behind-requires c = let g = c.args in
    omega (arith, end_within g.count (told_between g.image.now g.at g.first g.last) c.loop-k.k (omega arith))

pub loop-k-preserved : goal.loop-k-preserved
loop-k-preserved c = rw end_more (put_then c.loop-k.invariant c.put_told-behind.ensures)
