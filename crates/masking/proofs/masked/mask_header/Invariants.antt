use mathlib.Core.Path.{◌≡◌}
use mathlib.Core.List.{◌++◌}
use lib.ListN.{take, drop}
use Rattle.masking.specs.Masked.{masked}
use Rattle.masking.proofs.masked.mask_header.Given as goal

abbrev pub invariant-loop-i : goal.invariant-loop-i
invariant-loop-i l = l.out ≡ take l.i (masked l.mask l.frame) ++ drop l.i l.initial.out
