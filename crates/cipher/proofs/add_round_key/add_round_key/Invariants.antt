use Prim.Native.Nat.{◌+◌, ◌*◌}
use Rattle.octets.specs.Xor.{◌⊕◌}
use Rattle.octets.proofs.Rules.{Filled}
use Rattle.cipher.specs.State.{at, cell}
use Rattle.cipher.proofs.add_round_key.add_round_key.Given as goal

abbrev pub invariant-loop-i : goal.invariant-loop-i
invariant-loop-i l = Filled 16 (cell (λ r c. at l.s r c ⊕ at l.expanded r (4 * l.round + c))) l.out l.i
