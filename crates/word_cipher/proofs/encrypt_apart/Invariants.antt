use mathlib.Core.Path.{◌≡◌}
use Prim.Native.Nat.{◌-◌}
use Rattle.cipher.specs.Cipher.{rounds}
use Rattle.columns.specs.Columns.{state_from}
use Rattle.word_cipher.proofs.encrypt_apart.Given as goal

abbrev pub invariant-loop-n : goal.invariant-loop-n
invariant-loop-n l = state_from l.s ≡ rounds l.expanded (l.n - 1) (state_from l.initial.s)
