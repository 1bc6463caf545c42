-- `shifted` is right because dropping an octet's first bit and doubling is doubling and dropping what exceeds an octet.
-- Assumes nothing.
use mathlib.Core.Path.{◌≡◌, refl, ap, subst}
use Prim.Native.Nat.{ℕ, ◌+◌, ◌*◌, ◌/◌, ◌%◌}
use native.Mathlib.Omega.{arith}
use lib.ListN.{length, get_or-eq_default}
use mir.Syntax.{w8}
use mir.Val.{Fits}
use Rattle.octets.specs.Lists.{octet}
use Rattle.octets.proofs.Rules.{Filled, filled_none, filled_more, filled_all}
use Rattle.subkeys.specs.Subkeys.{shifted}
use borrow.Author.Rules.{rules}
use Rattle.subkeys.proofs.shifted.Invariants.{rule}
use Rattle.subkeys.proofs.shifted.Goals as goal

doubled : (a : ℕ) → a % 128 * 2 ≡ a * 2 % 256
doubled a = omega arith

pub loop-i-init : goal.loop-i-init
loop-i-init c = filled_none refl

pub overflow_add-out-in-loop-i : goal.overflow_add-out-in-loop-i
overflow_add-out-in-loop-i c = let f : Fits w8 (octet c.args.x (c.loop-i.i + 1)) = search rules in
    record { fits = omega arith }

pub loop-i-preserved : goal.loop-i-preserved
loop-i-preserved c = let x = c.args.x in
    let i : ℕ = c.loop-i.i in
    filled_more (omega arith) (ap (λ (n : ℕ). n + octet x (i + 1) / 128) (doubled (octet x i))) c.loop-i.invariant

pub returns : goal.returns
unfolding shifted
returns c = let x = c.args.x in
    let l : length x ≡ 16 = search rules in
    let none : octet x 16 ≡ 0 = get_or-eq_default x 0 (omega arith) in
    let at-loop = c.loop-i in
    let e : at-loop.i ≡ 15 = omega arith in
    let inv : Filled 16 (rule x) at-loop.out 15 = subst (λ (k : ℕ). Filled 16 (rule x) at-loop.out k) e at-loop.invariant in
    filled_all (omega arith) (filled_more (omega arith) (omega (arith, doubled (octet x 15))) inv)
