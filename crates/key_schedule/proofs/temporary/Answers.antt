-- `temporary` is right because each way out is the case of `temp` that its tests name.
-- Assumes nothing.
use mathlib.Core.Path.{◌≡◌}
use Prim.Native.Nat.{ℕ, ◌-◌, ◌/◌}
use native.Mathlib.Omega.{arith}
use borrow.Author.Tests.{eq-eqb, ne_eqb}
use Rattle.key_schedule.specs.KeyExpansion.{rcon, temp}
use Rattle.key_schedule.proofs.temporary.Goals as goal

pub returns-then-i-eq0 : goal.returns-then-i-eq0
unfolding temp rcon
returns-then-i-eq0 c = let i : ℕ = c.args.i in
    let eighth = c.if-i-eq0.true in
    let its_own : (i - 1) / 8 ≡ i / 8 - 1 = omega (arith, eighth) in
    simp (eq-eqb _ _ eighth) (cc its_own)

pub returns-then-i-eq4 : goal.returns-then-i-eq4
unfolding temp
returns-then-i-eq4 c = simp (ne_eqb _ _ c.if-i-eq0.false, eq-eqb _ _ c.if-i-eq4.true) cc

pub returns : goal.returns
unfolding temp
returns c = simp (ne_eqb _ _ c.if-i-eq0.false, ne_eqb _ _ c.if-i-eq4.false) cc
