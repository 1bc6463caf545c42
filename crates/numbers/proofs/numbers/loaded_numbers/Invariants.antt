use Rattle.numbers.proofs.Loading.{Loading}
use Rattle.numbers.proofs.numbers.loaded_numbers.Given as goal

abbrev pub invariant-loop-i : goal.invariant-loop-i
invariant-loop-i l = Loading l.image l.next.last l.i
