use Prim.Native.Nat.{◌+◌}
use lib.ListN.{length}
use Rattle.octets.specs.Lists.{octet}
use Rattle.octets.proofs.Rules.{Filled}
use Rattle.octets.proofs.copying.copy_at.Given as goal

abbrev pub invariant-loop-i : goal.invariant-loop-i
invariant-loop-i l = Filled (length l.initial.out) (λ j. octet l.s (l.at + j)) l.out l.i
