-- `judge_receiving` is right because it asks the definition's tests in their order, and each way out is the first that applies.
-- Assumes nothing.
use mathlib.Core.Path.{◌≡◌, refl, sym, ap, ◌∙◌}
use mathlib.Core.Bool.{true, false, not}
use mathlib.Core.List.{List}
use Prim.Native.Nat.{ℕ, ◌+◌, ◌≤◌}
use native.Mathlib.Omega.{arith}
use borrow.Author.Tests.{lt-ltb, le-ltb, ltb-false}
use lib.ListN.{length, drop}
use Rattle.kinds.specs.Kinds.{Kind, framed}
use Rattle.frame.specs.Parts as parts
use Rattle.marks.specs.Stores.{stores_of}
use Rattle.marks.specs.declared.plans.Plan.{Plan}
use Rattle.numbers.specs.Numbers.{accepts}
use Rattle.numbers.specs.Stores.{stores_for}
use Rattle.association.specs.declared.held.Held.{Held}
use Rattle.services.specs.SecurityHeader.{security_length}
use Rattle.protection.specs.Protection.{mac_right, clear_length}
use Rattle.opening.specs.Steps.{Opens}
use Rattle.judging.specs.Answers.{Test, first}
use Rattle.judging.specs.Replies.{receiving_tests}
use Rattle.judging.specs.declared.answers.Refusal.TheVariants as refused
use Rattle.verdicts.proofs.Accepting.{accepted_low}
use Rattle.judging.proofs.First.{none_left, applies, passes}
use Rattle.verdicts.proofs.Granting.{opens}
use Rattle.judging.proofs.Admitting.{refuses}
use Rattle.verdicts.proofs.receiving.judge_receiving.Goals.{After-too_short}
use Rattle.verdicts.proofs.receiving.judge_receiving.Goals as goal

-- ---- what the calls say of the frame

abbrev held : After-too_short → Held
held c = c.args.opening.held

abbrev kind : After-too_short → Kind
kind c = framed c.args.opening.framing

abbrev frame : After-too_short → List ℕ
frame c = c.args.frame.now

abbrev tests : After-too_short → List Test
tests c = receiving_tests (held c) c.args.last (mac_right (held c) (kind c) (frame c)) (kind c) (frame c) c.args.room

shortness : (c : After-too_short) → c.too_short.result ≡ parts.too_short (kind c) (security_length (held c)) (frame c)
shortness c = c.too_short.ensures ∙ ap (λ (s : ℕ). parts.too_short (kind c) s (frame c)) c.security_length.ensures.0

-- ---- 5: past it there is room for the parts, and the frame is no longer than the largest

pub returns-then-too_short : goal.returns-then-too_short
returns-then-too_short c = let d = (goal.at.returns-then-too_short c).After-too_short in
    refuses refused.TooShort _ (omega arith) (applies 5 _ _ (sym (shortness d) ∙ c.if-too_short.true))

past-5 : (c : After-too_short) → c.too_short.result ≡ false → first (tests c) ≡ first (drop 1 (tests c))
past-5 c e = passes 5 _ _ (sym (shortness c) ∙ e)

opened : (c : After-too_short) → c.too_short.result ≡ false → Opens c.args.opening c.args.frame.now
opened c e =
    let l = ltb-false (length (frame c)) ((kind c).header (frame c) + security_length (held c) + 1 + 16 + (kind c).trailer (frame c))
    (sym (shortness c) ∙ e)
    in
    opens c.args.opening c.args.frame.now c.requires.true_value.0 c.requires.true_value.1 (omega (arith, l))

-- ---- 6

pub returns-then-room-size : goal.returns-then-room-size
returns-then-room-size c = let d = (goal.at.returns-then-room-size c).After-too_short in
    refuses refused.NoRoom _ (omega arith)
    (past-5 d c.if-too_short.false
    ∙ applies 6 _ _ (lt-ltb d.args.room (clear_length (held d) (kind d) (frame d)) (omega (arith, c.clear_length-size.ensures))))

past-6 : (c : After-too_short) → c.too_short.result ≡ false → clear_length (held c) (kind c) (frame c) ≤ c.args.room
    → first (tests c) ≡ first (drop 2 (tests c))
past-6 c e l = past-5 c e ∙ passes 6 _ _ (le-ltb c.args.room (clear_length (held c) (kind c) (frame c)) l)

-- ---- 7

pub returns-then-not-mac_right : goal.returns-then-not-mac_right
returns-then-not-mac_right c = let d = (goal.at.returns-then-not-mac_right c).After-too_short in
    refuses refused.WrongMac _ (omega arith)
    (past-6 d c.if-too_short.false (omega (arith, c.clear_length-size.ensures))
    ∙ applies 7 _ _ (ap not (sym c.mac_right.ensures ∙ c.if-not-mac_right.true)))

past-7 : (c : After-too_short) → c.too_short.result ≡ false → clear_length (held c) (kind c) (frame c) ≤ c.args.room
    → mac_right (held c) (kind c) (frame c) ≡ true → first (tests c) ≡ first (drop 3 (tests c))
past-7 c e l m = past-6 c e l ∙ passes 7 _ _ (ap not m)

-- ---- 8

pub returns-then-not-accepts : goal.returns-then-not-accepts
returns-then-not-accepts c = let d = (goal.at.returns-then-not-accepts c).After-too_short in
    let tested = c.accepts.ensures ∙ ap (accepts d.args.last (held d).window) c.number_of-sequence.ensures in
    refuses refused.OutsideWindow _ (omega arith)
    (past-7 d c.if-too_short.false (omega (arith, c.clear_length-size.ensures)) (sym c.mac_right.ensures ∙ c.if-not-mac_right.false)
    ∙ applies 8 _ _ (ap not (sym tested ∙ c.if-not-accepts.true)))

-- past the window the number is the one that the frame holds
pub returns : goal.returns
returns c = let d = (goal.at.returns c).After-too_short in
    let g = d.args in
    let r = c.number_of-sequence.result in
    let tested = c.accepts.ensures ∙ ap (accepts d.args.last (held d).window) c.number_of-sequence.ensures in
    let numbered = sym (accepted_low g.last (held d).window r.above r.number (sym c.accepts.ensures ∙ c.if-not-accepts.false))
    ∙ c.number_of-sequence.ensures
    in
    record {
      answer = past-7 d c.if-too_short.false (omega (arith, c.clear_length-size.ensures)) (sym c.mac_right.ensures ∙ c.if-not-mac_right.false)
          ∙ passes 8 _ _ (ap not (sym tested ∙ c.if-not-accepts.false))
          ∙ none_left;
      entry = refl;
      number = numbered;
      stores = ap (λ (p : Plan). stores_of p) c.plan_for.ensures ∙ ap (stores_for g.image.now g.entry) numbered;
      size = c.clear_length-size.ensures;
    }

pub clear_length-size-requires : goal.clear_length-size-requires
clear_length-size-requires c = opened (goal.at.clear_length-size-requires c).After-too_short c.if-too_short.false

pub mac_right-requires : goal.mac_right-requires
mac_right-requires c = record {
  lent = c.requires.lent;
  opens = opened (goal.at.mac_right-requires c).After-too_short c.if-too_short.false;
}

pub number_of-sequence-requires : goal.number_of-sequence-requires
number_of-sequence-requires c = opened (goal.at.number_of-sequence-requires c).After-too_short c.if-too_short.false
