-- `admit_kind` is right because a frame that breaks its rules is answered by 3, one whose check field is wrong by 12, and one that
-- no entry matches by 4.
-- Assumes nothing.
use mathlib.Core.Path.{◌≡◌, sym, ap, ◌∙◌}
use mathlib.Core.Bool.{true, false}
use native.Mathlib.Omega.{arith}
use Rattle.frame.specs.Closing.{field_ok}
use Rattle.frame.specs.Rules.{obeys}
use Rattle.association.specs.Search.{entry_for}
use Rattle.association.specs.declared.search.Wanted.{Wanted}
use Rattle.judging.specs.Wants.{wanted}
use Rattle.judging.specs.Said.{kind_said}
use Rattle.judging.specs.declared.answers.Refusal.TheVariants as refused
use Rattle.judging.proofs.Admitting.{refuses, by_3, by_12, by_4, admits}
use Rattle.admission.proofs.admission.admit_kind.Goals as goal

pub returns-then-not-framing_obeyed : goal.returns-then-not-framing_obeyed
returns-then-not-framing_obeyed c = let g = c.args in
    let p = c.requires in
    let broken : obeys (kind_said g.said) g.frame.now g.secured ≡ false = cc in
    refuses refused.BadFrame _ (omega arith)
    (by_3 g.image.now g.numbers.last (wanted g.spi g.direction g.said g.frame.now) g.said g.frame.now g.secured p.0 p.1 p.2 broken)

-- and its field is right, or not
pub returns-then-not-field_ok : goal.returns-then-not-field_ok
returns-then-not-field_ok c = let g = c.args in
    let p = c.requires in
    let obeyed : obeys (kind_said g.said) g.frame.now g.secured ≡ true = cc in
    let wrong : field_ok (kind_said g.said) g.frame.now ≡ false = cc in
    refuses refused.WrongCheckField _ (omega arith)
    (by_12 g.image.now g.numbers.last (wanted g.spi g.direction g.said g.frame.now) g.said g.frame.now g.secured p.0 p.1 p.2 obeyed wrong)

pub returns-in_default : goal.returns-in_default
returns-in_default c = let g = c.args in
    let p = c.requires in
    let obeyed : obeys (kind_said g.said) g.frame.now g.secured ≡ true = cc in
    let closed : field_ok (kind_said g.said) g.frame.now ≡ true = cc in
    refuses refused.NoEntry _ (omega arith)
    (by_4 g.image.now g.numbers.last (wanted g.spi g.direction g.said g.frame.now) g.said g.frame.now g.secured p.0 p.1 p.2
    obeyed closed (sym (c.in_default.ensures ∙ ap (λ (w : Wanted). entry_for g.image.now w) c.wanted_by-wanted.ensures)))

pub returns : goal.returns
returns c = let g = c.args in
    let p = c.requires in
    let obeyed : obeys (kind_said g.said) g.frame.now g.secured ≡ true = cc in
    let closed : field_ok (kind_said g.said) g.frame.now ≡ true = cc in
    admits g.image.now g.numbers.last (wanted g.spi g.direction g.said g.frame.now) g.said g.frame.now g.secured p.0 p.1 p.2
    obeyed closed _ _ p.3 (sym (c.in-Some.ensures ∙ ap (λ (w : Wanted). entry_for g.image.now w) c.wanted_by-wanted.ensures))
