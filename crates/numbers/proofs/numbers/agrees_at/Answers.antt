-- `agrees_at` is right because a code is that of the number's mark exactly when it stands for that mark.
-- Assumes nothing.
use mathlib.Core.Path.{ap, ◌∙◌}
use Prim.Native.Nat.{ℕ, ◌/◌, ◌^◌, ◌<◌}
use native.Mathlib.Omega.{arith}
use lib.Dec.{eqb}
use Rattle.marks.specs.Gray.{code_length, ungray}
use Rattle.marks.proofs.GrayCode.{same-mark}
use Rattle.bodies.proofs.Lent.{number_lent}
use borrow.Author.Rules.{rules}
use Rattle.numbers.proofs.numbers.agrees_at.Goals as goal

pub returns : goal.returns
returns c = let code = c.four_at in
    let g = c.args in
    let small : code.result < 2 ^ 32 = search rules in
    let last : g.last / 64 < 2 ^ 32 = omega arith in
    ap (eqb code.result) c.gray_of.ensures
    ∙ same-mark (g.last / 64) code.result last small
    ∙ ap (λ (x : ℕ). eqb (g.last / 64) (ungray x)) (code.ensures ∙ number_lent g.image.now g.at code_length)
