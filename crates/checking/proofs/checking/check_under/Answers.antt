-- `check_under` is right because the verdict is what the definition decides, and it is carried out as the definition says: the stores, then
-- the output.
-- Assumes nothing.
use mathlib.Core.Path.{◌≡◌, ap, ◌∙◌, subst}
use mathlib.Core.Bool.{true}
use lib.ListN.{length}
use Rattle.std.specs.Prelude.{Result, Ok, Err}
use Rattle.octets.specs.Output.{written}
use Rattle.kinds.specs.Kinds.{framed}
use Rattle.frame.specs.Rules.{obeys}
use Rattle.association.specs.Association.{association_of, held_in}
use Rattle.association.specs.declared.held.Held.{Held}
use Rattle.protection.specs.Protection.{mac_right, clear_data}
use Rattle.opening.specs.Steps.{opening_of}
use Rattle.opening.specs.declared.checked.Opening.{Opening}
use Rattle.protection.proofs.Wire.{length_clear_data}
use Rattle.judging.specs.Replies.{Reply}
use Rattle.link.specs.Steps.{receiving_reply}
use Rattle.judging.specs.Verdicts.{Judgement, judgement, receiving_judged, Judged}
use Rattle.judging.specs.declared.answers.Refusal.{Refusal}
use Rattle.judging.specs.declared.verdict.Grant.{Grant}
use Rattle.link.proofs.Carried.{carried_refusal, carried_grant}
use Rattle.verdicts.proofs.Granting.{opened_so, releasable}
use Rattle.link.proofs.Under.{held_under, receiving_judged_lem}
use Rattle.checking.proofs.checking.check_under.Goals.{After-of-last}
use Rattle.checking.proofs.checking.check_under.Goals as goal

-- ---- the frame is opened under what the entry's association holds

under : (c : After-of-last) → let g = c.args in
    c.held_at-held.result ≡ held_in (association_of g.image.now g.numbers.last g.entry)
under c = let g = c.args in c.held_at-held.ensures ∙ held_under g.image.now g.numbers.last g.entry

opened : (c : After-of-last) → let g = c.args in
    c.opening_of-opening.result
    ≡ opening_of g.framing (held_in (association_of g.image.now g.numbers.last g.entry)) g.frame.now
opened c = let g = c.args in
    c.opening_of-opening.ensures ∙ ap (λ (h : Held). opening_of g.framing h g.frame.now) (under c)

as-opened : (c : After-of-last) → let o = c.opening_of-opening.result in let f = c.args.frame.now in
    (obeys (framed o.framing) f true ≡ true) × (o ≡ opening_of o.framing o.held f)
as-opened c = let g = c.args in opened_so g.framing _ g.frame.now c.opening_of-opening.result (opened c) c.requires.true_value

-- ---- the verdict

abbrev reply : After-of-last → Reply
reply c = let g = c.args in
    receiving_reply g.image.now g.numbers.last g.entry (framed g.framing) g.frame.now (length g.output.now)

-- what the call of `judge_receiving` says of a verdict
abbrev given : After-of-last → Result Grant Refusal → Type 0
given c v = let g = c.args in
    let o = c.opening_of-opening.result in
    Judged v (receiving_judged g.image.now g.entry o.held c.of-last.result (framed o.framing) g.frame.now (length g.output.now))

judged : (c : After-of-last) (v : Result Grant Refusal) → given c v → Judged v (judgement (reply c))
judged c v e = let g = c.args in
    subst (λ (j : Judgement). Judged v j)
    (ap (λ (o : Opening). receiving_judged g.image.now g.entry o.held c.of-last.result (framed o.framing) g.frame.now (length g.output.now))
    c.opening_of-opening.ensures
    ∙ receiving_judged_lem g.image.now g.numbers.last g.entry _ _ c.held_at-held.ensures c.of-last.ensures (framed g.framing)
    g.frame.now (length g.output.now))
    e

pub returns-in-Err : goal.returns-in-Err
returns-in-Err c = let g = c.args in
    let d = (goal.at.returns-in-Err c).After-of-last in
    carried_refusal (reply d) g.image.now g.output.now _ g.numbers _ (judged d (Err c.in-Err.refusal) c.in-Err.ensures) c.refused.ensures

-- ---- a grant

pub release-requires : goal.release-requires
release-requires c = let d = (goal.at.release-requires c).After-of-last in
    let o = c.opening_of-opening.result in
    let g = c.args in
    let k = framed o.framing in
    let s = as-opened d in
    record {
      lent = c.requires.lent;
      made_value = c.make_all-made.ensures.0;
      opens = releasable o g.frame.now s.0 s.1 c.of-last.result (mac_right o.held k g.frame.now) (length g.output.now)
          c.in-Ok.ensures.answer;
    }

pub returns-in-Ok : goal.returns-in-Ok
returns-in-Ok c = let d = (goal.at.returns-in-Ok c).After-of-last in
    let g = c.args in
    let h = held_in (association_of g.image.now g.numbers.last g.entry) in
    let j = judged d (Ok c.in-Ok.grant) c.in-Ok.ensures in
    carried_grant (reply d) g.image.now g.output.now _ g.numbers.last c.release.result _ _ j
    (length_clear_data h (framed g.framing) g.frame.now) c.make_all-made.ensures.1
    (c.release.ensures.output_after
    ∙ ap (λ (o : Opening). written (clear_data o.held (framed o.framing) g.frame.now) g.output.now) (opened d))
    c.release.ensures.answer_value.0 c.release.ensures.answer_value.1

pub judge_receiving-requires : goal.judge_receiving-requires
judge_receiving-requires c = record {
  lent = c.requires.lent;
  true_value = as-opened (goal.at.judge_receiving-requires c).After-of-last;
}
