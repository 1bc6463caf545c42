-- `constant_after` is right because (i - 1) / 8 and i / 8 differ only where 8 divides i, and then by the one step that doubling makes.
-- Assumes nothing.
use mathlib.Core.Path.{◌≡◌, ◌∙◌, ap}
use Prim.Native.Nat.{ℕ, suc, ◌-◌, ◌/◌}
use native.Mathlib.Omega.{arith}
use Rattle.substitution.specs.Field.{xtime}
use Rattle.key_schedule.specs.KeyExpansion.{round_constant}
use Rattle.key_schedule.proofs.constant_after.Goals as goal

pub returns-then-i-ne0 : goal.returns-then-i-ne0
returns-then-i-ne0 c = let i : ℕ = c.args.i in
    let stays : (i - 1) / 8 ≡ i / 8 = omega (arith, c.if-i-ne0.true) in
    c.requires.constant_value ∙ ap round_constant stays

pub returns : goal.returns
unfolding round_constant
returns c = let i : ℕ = c.args.i in
    let grows : suc ((i - 1) / 8) ≡ i / 8 = omega (arith, c.if-i-ne0.false) in
    c.times_x.ensures ∙ ap xtime c.requires.constant_value ∙ ap round_constant grows
