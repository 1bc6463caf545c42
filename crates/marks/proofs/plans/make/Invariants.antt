use Rattle.std.proofs.Common.{◌≡◌}
use Rattle.marks.specs.Stores.{store_at, steps, stored}
use Rattle.marks.proofs.plans.make.Given as goal

abbrev pub invariant-loop-i : goal.invariant-loop-i
invariant-loop-i l = l.image ≡ stored l.initial.image (steps l.i (store_at l.plan))
