-- `admit` is right because an image that breaks a rule is answered by 1, numbers that do not agree by 2, a number that is no desk's by 19,
-- a number that names no kind by 3, and the rest by the kind.
-- Assumes nothing.
use mathlib.Core.Path.{sym, ap, ◌∙◌}
use native.Mathlib.Omega.{arith}
use Rattle.std.specs.Prelude.{Option, Result}
use Rattle.kinds.specs.Kinds.{kind_behind, with_check_field}
use Rattle.kinds.specs.declared.kinds.Kind as code
use Rattle.frame.specs.Rules.{obeys}
use Rattle.judging.specs.Replies.{seen}
use Rattle.judging.specs.Verdicts.{Admitted}
use Rattle.judging.specs.Wants.{wanted}
use Rattle.judging.specs.declared.answers.Refusal.{Refusal}
use Rattle.judging.specs.declared.answers.Refusal.TheVariants as refused
use Rattle.judging.specs.declared.verdict.Admission.{Admission}
use Rattle.judging.proofs.Admitting.{refuses, by_19, by_3}
use Rattle.judging.proofs.Standings.{standing_well, unfit_passed}
use Rattle.admission.proofs.admission.admit.Goals as goal

-- 1 and 2
pub returns-in_err-test_standing : goal.returns-in_err-test_standing
unfolding seen
returns-in_err-test_standing c = let g = c.args in
    unfit_passed g.image.now g.numbers.last
    (λ (x : Result Admission Refusal).
    Admitted x g.image.now g.numbers.last (wanted g.spi g.direction g.said g.frame.now) g.said g.secured g.frame.now)
    _ _ _ (λ r j. j) (sym c.in_err-test_standing.ensures) c.from_residual.ensures.1

-- 19
pub returns-then-no_desk : goal.returns-then-no_desk
returns-then-no_desk c = let g = c.args in
    let w = standing_well g.image.now g.numbers.last (sym c.in_ok-test_standing.ensures) in
    refuses refused.WrongDesk _ (omega arith)
    (by_19 g.image.now g.numbers.last (wanted g.spi g.direction g.said g.frame.now) g.said g.frame.now g.secured w.0 w.1
    (sym c.no_desk.ensures ∙ c.if-no_desk.true))

-- 3
pub returns-in_default : goal.returns-in_default
unfolding obeys
returns-in_default c = let g = c.args in
    let w = standing_well g.image.now g.numbers.last (sym c.in_ok-test_standing.ensures) in
    let none = sym c.requires ∙ c.in_default.is in
    refuses refused.BadFrame _ (omega arith)
    (by_3 g.image.now g.numbers.last (wanted g.spi g.direction g.said g.frame.now) g.said g.frame.now g.secured w.0 w.1
    (sym c.no_desk.ensures ∙ c.if-no_desk.false)
    (ap (λ (x : Option code.Kind). obeys (with_check_field g.said.field (kind_behind x)) g.frame.now g.secured) none))

-- past these
pub admit_kind-requires : goal.admit_kind-requires
admit_kind-requires c = let g = c.args in
    let w = standing_well g.image.now g.numbers.last (sym c.in_ok-test_standing.ensures) in (
      w.0,
      w.1,
      sym c.no_desk.ensures ∙ c.if-no_desk.false,
      ap (λ (x : Option code.Kind). with_check_field g.said.field (kind_behind x)) (sym c.requires ∙ c.in-Some.is),
    )
