-- `kind_of` is right because its arms are the numbers of the paper's list.
-- Assumes nothing.
use mathlib.Core.Path.{◌≡◌, sym, ap}
use native.Mathlib.Omega.{arith}
use borrow.Author.Tests.{ne_eqb}
use Rattle.kinds.specs.Kinds.{named}
use Rattle.kinds.proofs.kinds.kind_of.Goals as goal

pub returns-in-1 : goal.returns-in-1
unfolding named
returns-in-1 c = let e : c.args.number ≡ 1 = omega arith in ap named (sym e)

pub returns-in-2 : goal.returns-in-2
unfolding named
returns-in-2 c = let e : c.args.number ≡ 2 = omega arith in ap named (sym e)

pub returns-in-3 : goal.returns-in-3
unfolding named
returns-in-3 c = let e : c.args.number ≡ 3 = omega arith in ap named (sym e)

pub returns-in-4 : goal.returns-in-4
unfolding named
returns-in-4 c = let e : c.args.number ≡ 4 = omega arith in ap named (sym e)

pub returns-in_default : goal.returns-in_default
unfolding named
returns-in_default c = let n = c.args.number in
    simp (ne_eqb n 1 (λ e. omega arith), ne_eqb n 2 (λ e. omega arith), ne_eqb n 3 (λ e. omega arith), ne_eqb n 4 (λ e. omega arith))
