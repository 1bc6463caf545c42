use mathlib.Core.List.{◌++◌}
use Prim.Native.Nat.{◌+◌, ◌*◌}
use Rattle.octets.specs.Lists.{octet}
use Rattle.octets.proofs.Rules.{Filled}
use Rattle.message_blocks.proofs.gathered.Given as goal

abbrev pub invariant-loop-j : goal.invariant-loop-j
invariant-loop-j l = Filled 16 (λ k. octet (l.head ++ l.body) (16 * l.i + k)) l.out l.j
