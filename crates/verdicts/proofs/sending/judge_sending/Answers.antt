-- `judge_sending` is right because it asks the definition's tests in their order, and each way out is the first that applies.
-- Assumes nothing.
use mathlib.Core.Path.{◌≡◌, refl, sym, ap, ◌∙◌}
use mathlib.Core.Bool.{false}
use mathlib.Core.List.{List}
use Prim.Native.Nat.{ℕ, ◌≤◌, ◌<◌}
use native.Mathlib.Omega.{arith}
use borrow.Author.Tests.{lt-ltb, le-ltb, le-leb, lt-leb}
use lib.ListN.{drop}
use Rattle.kinds.specs.Kinds.{Kind, framed}
use Rattle.frame.specs.Parts as parts
use Rattle.marks.specs.Stores.{stores_of}
use Rattle.marks.specs.declared.plans.Plan.{Plan}
use Rattle.association.specs.declared.held.Held.{Held}
use Rattle.services.specs.SecurityHeader.{security_length}
use Rattle.protection.specs.Protection.{secured_length}
use Rattle.judging.specs.Answers.{Test, first}
use Rattle.judging.specs.Replies.{sending_tests}
use Rattle.judging.specs.declared.answers.Refusal.TheVariants as refused
use Rattle.judging.proofs.First.{none_left, applies, passes}
use Rattle.judging.proofs.Admitting.{refuses}
use Rattle.verdicts.proofs.sending.judge_sending.Goals.{After-exceeds}
use Rattle.verdicts.proofs.sending.judge_sending.Goals as goal

-- ---- what the calls say of the frame

abbrev held : After-exceeds → Held
held c = c.args.held

abbrev kind : After-exceeds → Kind
kind c = framed c.args.framing

abbrev frame : After-exceeds → List ℕ
frame c = c.args.frame.now

abbrev tests : After-exceeds → List Test
tests c = sending_tests (held c) c.args.last (kind c) (frame c) c.args.room

security : (c : After-exceeds) → c.security_length-security.result ≡ security_length (held c)
security c = c.security_length-security.ensures.0

sized : (c : After-exceeds) → c.secured_length-size.result ≡ secured_length (held c) (frame c)
sized c = c.secured_length-size.ensures ∙ ap (λ (s : ℕ). parts.secured_length s (frame c)) (security c)

exceeding : (c : After-exceeds) → c.exceeds.result ≡ parts.exceeds (kind c) (security_length (held c)) (frame c)
exceeding c = c.exceeds.ensures ∙ ap (λ (s : ℕ). parts.exceeds (kind c) s (frame c)) (security c)

-- ---- 11

pub returns-then-exceeds : goal.returns-then-exceeds
returns-then-exceeds c = let d = (goal.at.returns-then-exceeds c).After-exceeds in
    refuses refused.TooLong _ (omega arith) (applies 11 _ _ (sym (exceeding d) ∙ c.if-exceeds.true))

past-11 : (c : After-exceeds) → c.exceeds.result ≡ false → first (tests c) ≡ first (drop 1 (tests c))
past-11 c e = passes 11 _ _ (sym (exceeding c) ∙ e)

-- ---- 6

pub returns-then-room-size : goal.returns-then-room-size
returns-then-room-size c = let d = (goal.at.returns-then-room-size c).After-exceeds in
    refuses refused.NoRoom _ (omega arith)
    (past-11 d c.if-exceeds.false ∙ applies 6 _ _ (lt-ltb d.args.room (secured_length (held d) (frame d)) (omega (arith, sized d))))

past-6 : (c : After-exceeds) → c.exceeds.result ≡ false → c.secured_length-size.result ≤ c.args.room
    → first (tests c) ≡ first (drop 2 (tests c))
past-6 c e l = past-11 c e ∙ passes 6 _ _ (le-ltb c.args.room (secured_length (held c) (frame c)) (omega (arith, sized c)))

-- ---- 10

pub returns-then-last-eq-GREATEST : goal.returns-then-last-eq-GREATEST
returns-then-last-eq-GREATEST c = let d = (goal.at.returns-then-last-eq-GREATEST c).After-exceeds in
    refuses refused.NumbersSpent _ (omega arith)
    (past-6 d c.if-exceeds.false c.if-room-size.false ∙ applies 10 _ _ (le-leb 4294967295 d.args.last (omega arith)))

past-10 : (c : After-exceeds) → c.exceeds.result ≡ false → c.secured_length-size.result ≤ c.args.room → c.args.last < 4294967295
    → first (tests c) ≡ 0
past-10 c e l b = past-6 c e l ∙ passes 10 _ _ (lt-leb 4294967295 c.args.last b) ∙ none_left

pub returns : goal.returns
returns c = let d = (goal.at.returns c).After-exceeds in record {
  answer = past-10 d c.if-exceeds.false c.if-room-size.false (omega arith);
  entry = refl;
  number = refl;
  stores = ap (λ (p : Plan). stores_of p) c.plan_for.ensures;
  size = sized d;
}
