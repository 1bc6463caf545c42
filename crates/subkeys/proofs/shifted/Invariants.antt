use mathlib.Core.List.{List}
use Prim.Native.Nat.{ℕ, ◌+◌, ◌*◌, ◌/◌, ◌%◌}
use Rattle.octets.specs.Lists.{octet}
use Rattle.octets.proofs.Rules.{Filled}
use Rattle.subkeys.proofs.shifted.Given as goal

-- octet i of the shifted block
abbrev pub rule : List ℕ → ℕ → ℕ
rule x i = octet x i * 2 % 256 + octet x (i + 1) / 128

abbrev pub invariant-loop-i : goal.invariant-loop-i
invariant-loop-i l = Filled 16 (rule l.x) l.out l.i
