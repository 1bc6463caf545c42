use Rattle.std.proofs.Common.{◌≡◌, drop}
use Rattle.std.proofs.Math.Seq.{paste}
use Rattle.octets.specs.Xor.{xors}
use Rattle.gctr.proofs.add_octets.Given as goal

abbrev pub invariant-loop-j : goal.invariant-loop-j
invariant-loop-j l = l.out ≡ paste l.initial.out l.at (xors 16 (drop l.at l.src) l.stream) l.j
