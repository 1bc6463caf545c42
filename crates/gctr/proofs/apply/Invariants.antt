use mathlib.Core.Path.{◌≡◌}
use Prim.Native.Nat.{◌-◌}
use lib.ListN.{length}
use Rattle.block.specs.Halves.{value}
use Rattle.gctr.proofs.Counting.{Streaming}
use Rattle.gctr.proofs.apply.Given as goal

abbrev pub invariant-loop-at : goal.invariant-loop-at
invariant-loop-at l = (length l.out ≡ length l.initial.out) × Streaming l.expanded l.src l.initial.out l.out (value l.initial.cb) (value l.cb) l.at

abbrev pub decreases-loop-at : goal.decreases-loop-at
decreases-loop-at l = length l.src - l.at
