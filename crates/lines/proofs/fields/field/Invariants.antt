use Rattle.std.proofs.Common.{◌≡◌, ◌-◌}
use Rattle.lines.specs.Fields.{field_of}
use Rattle.lines.proofs.fields.field.Given as goal

abbrev pub invariant-loop : goal.invariant-loop
invariant-loop l = field_of l.n l.line ≡ field_of (l.n - l.counter) l.rest
