-- `secure_under` is right because the verdict is what the definition decides, and it is carried out as the definition says: the stores, then
-- the output.
-- Assumes nothing.
use mathlib.Core.Path.{◌≡◌, ap₂, ◌∙◌, subst}
use Prim.Native.Nat.{ℕ, ◌+◌}
use lib.ListN.{length}
use Rattle.std.specs.Prelude.{Result, Ok, Err}
use Rattle.octets.specs.Output.{written}
use Rattle.kinds.specs.Kinds.{framed}
use Rattle.association.specs.Association.{association_of, held_in}
use Rattle.association.specs.declared.held.Held.{Held}
use Rattle.protection.specs.Protection.{secured_frame}
use Rattle.judging.specs.Replies.{Reply}
use Rattle.link.specs.Steps.{sending_reply}
use Rattle.judging.specs.Verdicts.{Judgement, judgement, Judged, sending_judged}
use Rattle.judging.specs.declared.answers.Refusal.{Refusal}
use Rattle.judging.specs.declared.verdict.Grant.{Grant}
use Rattle.link.proofs.Carried.{carried_refusal, carried_grant}
use Rattle.verdicts.proofs.Granting.{securable, frame-size}
use Rattle.link.proofs.Under.{held_under, sending_judged_lem}
use Rattle.securing.proofs.securing.secure_under.Goals.{After-judge_sending}
use Rattle.securing.proofs.securing.secure_under.Goals as goal

abbrev reply : After-judge_sending → Reply
reply c = let g = c.args in
    sending_reply g.image.now g.numbers.last g.entry (framed g.framing) g.spi g.frame.now (length g.output.now)

-- what the call of `judge_sending` says of a verdict
abbrev given : After-judge_sending → Result Grant Refusal → Type 0
given c v = let g = c.args in
    Judged v (sending_judged g.image.now g.entry c.held_at-held.result c.of-last.result (framed g.framing) g.frame.now (length g.output.now))

judged : (c : After-judge_sending) (v : Result Grant Refusal) → given c v → Judged v (judgement (reply c))
judged c v e = let g = c.args in
    subst (λ (j : Judgement). Judged v j)
    (sending_judged_lem g.image.now g.numbers.last g.entry _ _ c.held_at-held.ensures c.of-last.ensures
    (framed g.framing) g.spi g.frame.now (length g.output.now))
    e

under : (c : After-judge_sending) → let g = c.args in
    c.held_at-held.result ≡ held_in (association_of g.image.now g.numbers.last g.entry)
under c = let g = c.args in c.held_at-held.ensures ∙ held_under g.image.now g.numbers.last g.entry

pub returns-in-Err : goal.returns-in-Err
returns-in-Err c = let g = c.args in
    let d = (goal.at.returns-in-Err c).After-judge_sending in
    carried_refusal (reply d) g.image.now g.output.now _ g.numbers _ (judged d (Err c.in-Err.refusal) c.in-Err.ensures)
    c.refused.ensures

-- ---- a grant

pub hand_out-requires : goal.hand_out-requires
hand_out-requires c = let g = c.args in
    let d = (goal.at.hand_out-requires c).After-judge_sending in
    let a = association_of g.image.now g.numbers.last g.entry in
    let j = judged d (Ok c.in-Ok.grant) c.in-Ok.ensures in record {
      lent = c.requires.lent;
      made_value = c.make_all-made.ensures.0;
      securable = rw (under d) (securable (held_in a) a.number g.framing g.frame.now (length g.output.now) c.requires.false_value j.answer);
    }

pub returns-in-Ok : goal.returns-in-Ok
returns-in-Ok c = let g = c.args in
    let d = (goal.at.returns-in-Ok c).After-judge_sending in
    let a = association_of g.image.now g.numbers.last g.entry in
    let j = judged d (Ok c.in-Ok.grant) c.in-Ok.ensures in
    carried_grant (reply d) g.image.now g.output.now _ g.numbers.last c.hand_out.result _ _ j
    (frame-size (held_in a) a.number g.framing g.frame.now (length g.output.now) c.requires.false_value j.answer g.spi (a.number + 1))
    c.make_all-made.ensures.1
    (c.hand_out.ensures.output_after
    ∙ ap₂ (λ (h : Held) (n : ℕ). written (secured_frame h (framed g.framing) g.spi n g.frame.now) g.output.now) (under d) j.number)
    c.hand_out.ensures.answer_value.0 c.hand_out.ensures.answer_value.1
