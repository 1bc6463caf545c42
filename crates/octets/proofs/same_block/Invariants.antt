use mathlib.Core.Path.{◌≡◌}
use Prim.Native.Nat.{ℕ, ◌<◌}
use Rattle.octets.specs.Lists.{octet}
use Rattle.octets.proofs.same_block.Given as goal

abbrev pub invariant-loop-i : goal.invariant-loop-i
invariant-loop-i l = (l.differing ≡ 0 → (k : ℕ) → k < l.i → octet l.a k ≡ octet l.b k) × (l.a ≡ l.b → l.differing ≡ 0)
