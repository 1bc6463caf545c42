use mathlib.Core.Path.{◌≡◌}
use Prim.Native.Nat.{◌-◌, ◌/◌}
use Rattle.key_schedule.specs.KeyExpansion.{round_constant}
use Rattle.key_schedule.proofs.Schedule.{Scheduled}
use Rattle.key_schedule.proofs.expand_key.Given as goal

abbrev pub invariant-loop-i : goal.invariant-loop-i
invariant-loop-i l = Scheduled l.fn.key l.w l.i × (l.constant ≡ round_constant ((l.i - 1) / 8))
