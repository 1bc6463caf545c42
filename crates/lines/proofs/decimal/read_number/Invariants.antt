use Rattle.std.proofs.Common.{◌≡◌, drop}
use Rattle.lines.specs.Decimal.{spelled_after, spelled}
use Rattle.lines.proofs.decimal.read_number.Given as goal

abbrev pub invariant-loop-c : goal.invariant-loop-c
invariant-loop-c l = spelled l.text ≡ spelled_after l.n (drop l.c-index l.text)
