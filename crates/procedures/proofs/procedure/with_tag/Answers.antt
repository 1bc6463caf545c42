-- `with_tag` is right because its arms are the tags of the list.
-- Assumes nothing.
use mathlib.Core.Path.{◌≡◌, sym, ap}
use Prim.Native.Nat.{ℕ}
use native.Mathlib.Omega.{arith}
use borrow.Author.Tests.{ne_eqb}
use Rattle.procedures.specs.Procedures.{procedures, with_tag}
use Rattle.procedures.proofs.procedure.with_tag.Goals as goal

pub returns-in-27 : goal.returns-in-27
unfolding with_tag
returns-in-27 c = let e : c.args.tag ≡ 27 = omega arith in ap (λ (t : ℕ). with_tag t procedures) (sym e)

pub returns-in-30 : goal.returns-in-30
unfolding with_tag
returns-in-30 c = let e : c.args.tag ≡ 30 = omega arith in ap (λ (t : ℕ). with_tag t procedures) (sym e)

pub returns-in-22 : goal.returns-in-22
unfolding with_tag
returns-in-22 c = let e : c.args.tag ≡ 22 = omega arith in ap (λ (t : ℕ). with_tag t procedures) (sym e)

pub returns-in-25 : goal.returns-in-25
unfolding with_tag
returns-in-25 c = let e : c.args.tag ≡ 25 = omega arith in ap (λ (t : ℕ). with_tag t procedures) (sym e)

pub returns-in-26 : goal.returns-in-26
unfolding with_tag
returns-in-26 c = let e : c.args.tag ≡ 26 = omega arith in ap (λ (t : ℕ). with_tag t procedures) (sym e)

pub returns-in-21 : goal.returns-in-21
unfolding with_tag
returns-in-21 c = let e : c.args.tag ≡ 21 = omega arith in ap (λ (t : ℕ). with_tag t procedures) (sym e)

pub returns-in-31 : goal.returns-in-31
unfolding with_tag
returns-in-31 c = let e : c.args.tag ≡ 31 = omega arith in ap (λ (t : ℕ). with_tag t procedures) (sym e)

pub returns-in-16 : goal.returns-in-16
unfolding with_tag
returns-in-16 c = let e : c.args.tag ≡ 16 = omega arith in ap (λ (t : ℕ). with_tag t procedures) (sym e)

pub returns-in-49 : goal.returns-in-49
unfolding with_tag
returns-in-49 c = let e : c.args.tag ≡ 49 = omega arith in ap (λ (t : ℕ). with_tag t procedures) (sym e)

pub returns-in-2 : goal.returns-in-2
unfolding with_tag
returns-in-2 c = let e : c.args.tag ≡ 2 = omega arith in ap (λ (t : ℕ). with_tag t procedures) (sym e)

pub returns-in-3 : goal.returns-in-3
unfolding with_tag
returns-in-3 c = let e : c.args.tag ≡ 3 = omega arith in ap (λ (t : ℕ). with_tag t procedures) (sym e)

pub returns-in-7 : goal.returns-in-7
unfolding with_tag
returns-in-7 c = let e : c.args.tag ≡ 7 = omega arith in ap (λ (t : ℕ). with_tag t procedures) (sym e)

pub returns-in_default : goal.returns-in_default
unfolding with_tag
returns-in_default c = let t = c.args.tag in
    simp (
      ne_eqb t 27 (omega arith),
      ne_eqb t 30 (omega arith),
      ne_eqb t 22 (omega arith),
      ne_eqb t 25 (omega arith),
      ne_eqb t 26 (omega arith),
      ne_eqb t 21 (omega arith),
      ne_eqb t 31 (omega arith),
      ne_eqb t 16 (omega arith),
      ne_eqb t 49 (omega arith),
      ne_eqb t 2 (omega arith),
      ne_eqb t 3 (omega arith),
      ne_eqb t 7 (omega arith),
    )
