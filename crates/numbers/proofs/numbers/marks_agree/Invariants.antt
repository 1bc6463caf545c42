use mathlib.Core.Path.{◌≡◌}
use Prim.Native.Nat.{◌/◌}
use lib.Dec.{eqb}
use Rattle.octets.specs.Lists.{all}
use Rattle.image.specs.Image.{mark_in}
use Rattle.numbers.specs.Numbers.{number_of}
use Rattle.numbers.proofs.numbers.marks_agree.Given as goal

abbrev pub invariant-loop-i : goal.invariant-loop-i
invariant-loop-i l = l.ok ≡ all l.i (λ j. eqb (number_of l.numbers.last j / 64) (mark_in l.image j))
