use Rattle.octets.specs.Lists.{octet}
use Rattle.octets.specs.Xor.{◌⊕◌}
use Rattle.octets.proofs.Rules.{Filled}
use Rattle.octets.proofs.adding.xors.Given as goal

abbrev pub invariant-loop-i : goal.invariant-loop-i
invariant-loop-i g l = Filled g.row.N (λ j. octet l.a j ⊕ octet l.b j) l.out l.i
