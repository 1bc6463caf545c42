use Rattle.std.proofs.Common.{drop}
use Rattle.octets.specs.Lists.{octet}
use Rattle.octets.specs.Xor.{◌⊕◌}
use Rattle.octets.proofs.Rules.{Filled}
use Rattle.gctr.proofs.sums.Given as goal

abbrev pub invariant-loop-j : goal.invariant-loop-j
invariant-loop-j l = Filled 16 (λ k. octet (drop l.at l.src) k ⊕ octet l.stream k) l.out l.j
