-- `times_x` is right because bit 7 is what the shift drops, and {1b} times that bit is what `xtime` adds.
-- Assumes nothing.
use mathlib.Core.Path.{◌≡◌, ◌∙◌, refl, ap₂}
use mathlib.Core.Bool.{Bool, true, false, cond}
use Prim.Native.Nat.{ℕ, ◌-◌, ◌*◌, ◌/◌, ◌%◌, ◌<◌}
use native.Mathlib.Omega.{arith}
use borrow.Author.Tests.{ltb-true, ltb-false}
use lib.Bits.{xor_zero_r}
use lib.Dec.{ltb}
use Rattle.octets.specs.Xor.{◌⊕◌}
use Rattle.substitution.specs.Field.{xtime}
use borrow.Author.Rules.{rules}
use Rattle.substitution.proofs.times_x.Goals as goal

by-case : (b : ℕ) → b < 256 → (t : Bool) → ltb b 128 ≡ t → b * 2 % 256 ⊕ b / 128 * 0x1b ≡ cond t (b * 2) ((b - 128) * 2 ⊕ 0x1b)
by-case b h true e =
    let whole : b * 2 % 256 ≡ b * 2 = omega (arith, ltb-true b 128 e) in
    let none : b / 128 * 0x1b ≡ 0 = omega (arith, ltb-true b 128 e) in
    ap₂ ◌⊕◌ whole none ∙ xor_zero_r (b * 2)
by-case b h false e =
    let rest : b * 2 % 256 ≡ (b - 128) * 2 = omega (arith, ltb-false b 128 e) in
    let once : b / 128 * 0x1b ≡ 0x1b = omega (arith, ltb-false b 128 e) in
    ap₂ ◌⊕◌ rest once

pub returns : goal.returns
unfolding xtime
returns c = by-case c.args.b (search rules) (ltb c.args.b 128) refl
