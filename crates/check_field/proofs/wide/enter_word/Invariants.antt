use mathlib.Core.Path.{◌≡◌}
use Prim.Native.Nat.{◌*◌}
use Rattle.octets.specs.Numbers.{number}
use Rattle.check_field.specs.Register.{after_bits}
use Rattle.check_field.proofs.wide.enter_word.Given as goal

abbrev pub invariant-loop-octet : goal.invariant-loop-octet
invariant-loop-octet l = l.register ≡ after_bits (8 * l.octet-index) 0 (number l.octet-index l.octet-items)
