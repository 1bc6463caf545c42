use Rattle.std.proofs.Common.{◌≡◌}
use Rattle.event_log.specs.Held.{lines_behind}
use Rattle.event_log.proofs.dumping.put_lines.Given as goal

abbrev pub invariant-loop-i : goal.invariant-loop-i
invariant-loop-i l = l.output ≡ lines_behind l.initial.output l.events l.i
