use Rattle.octets.proofs.Rules.{Filled}
use Rattle.cipher.specs.State.{at, cell}
use Rattle.substitution.specs.Sbox.{sbox}
use Rattle.cipher.proofs.sub_bytes.sub_bytes.Given as goal

abbrev pub invariant-loop-i : goal.invariant-loop-i
invariant-loop-i l = Filled 16 (cell (λ r c. sbox (at l.s r c))) l.out l.i
