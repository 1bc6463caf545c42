use mathlib.Core.Path.{◌≡◌}
use Prim.Native.Nat.{◌-◌}
use Rattle.cipher.specs.Cipher.{rounds}
use Rattle.cipher.proofs.encrypt_block.Given as goal

abbrev pub invariant-loop-n : goal.invariant-loop-n
invariant-loop-n l = l.s ≡ rounds l.expanded (l.n - 1) l.initial.s
