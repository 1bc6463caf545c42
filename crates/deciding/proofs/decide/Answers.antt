-- `decide` is right because it asks the definition's tests in their order, and each way out is the first that applies.
-- Assumes nothing.
use mathlib.Core.Path.{◌≡◌, refl, sym, ap, ◌∙◌}
use mathlib.Core.Bool.{true, false, not}
use mathlib.Core.List.{List}
use Prim.Native.Nat.{ℕ}
use native.Mathlib.Omega.{arith}
use borrow.Author.Tests.{lt-ltb, le-ltb}
use lib.Dec.{ltb}
use lib.ListN.{length, drop}
use Rattle.bodies.specs.Body.{state_of}
use Rattle.image.specs.Image.{version_of, body_of}
use Rattle.judging.specs.Answers.{Test, first}
use Rattle.judging.specs.declared.answers.Refusal.TheVariants as refused
use Rattle.judging.proofs.Admitting.{refuses}
use Rattle.judging.proofs.First.{none_left, applies, passes}
use Rattle.procedures.specs.Procedures.{Procedure, procedure_is}
use Rattle.deciding.specs.Deciding.{procedure_tests}
use Rattle.deciding.proofs.decide.Goals as goal

module _ (p : Procedure) (image : List ℕ) (e last : ℕ) (value : List ℕ) (room : ℕ) where
  abbrev body : List ℕ
  body = body_of image e

  abbrev tests : List Test
  tests = procedure_tests p image e last value room

  -- ---- 15, 16, 17 and 18

  module _ (asked : p.asks (state_of body) ≡ true) where
    past-15 : first tests ≡ first (drop 1 tests)
    past-15 = passes 15 _ _ (ap not asked)

    module _ (allowed : p.allows (version_of image) body last value ≡ true) where
      past-16 : first tests ≡ first (drop 2 tests)
      past-16 = past-15 ∙ passes 16 _ _ (ap not allowed)

      module _ (known : p.knows image e value ≡ true) where
        past-17 : first tests ≡ first (drop 3 tests)
        past-17 = past-16 ∙ passes 17 _ _ (ap not known)

        module _ (ready : p.ready image e value ≡ true) where
          past-18 : first tests ≡ first (drop 4 tests)
          past-18 = past-17 ∙ passes 18 _ _ (ap not ready)

          -- ---- 6

          past-6 : ltb room (length (p.reply image e last value)) ≡ false → first tests ≡ 0
          past-6 roomy = past-18 ∙ passes 6 _ _ roomy ∙ none_left

pub returns-then-not-asks : goal.returns-then-not-asks
returns-then-not-asks c = let g = c.args in
    let p = procedure_is g.procedure in
    let asked : p.asks (state_of (body_of g.image.now g.entry)) ≡ c.asks.result = sym (c.asks.ensures ∙ ap p.asks c.state_at.ensures) in
    refuses refused.WrongState _ (omega arith) (applies 15 _ _ (ap not (asked ∙ c.if-not-asks.true)))

pub returns-then-not-allowed : goal.returns-then-not-allowed
returns-then-not-allowed c = let g = c.args in
    let p = procedure_is g.procedure in
    let asked : p.asks (state_of (body_of g.image.now g.entry)) ≡ c.asks.result = sym (c.asks.ensures ∙ ap p.asks c.state_at.ensures) in
    refuses refused.BadValue _ (omega arith)
    (past-15 p g.image.now g.entry g.last g.value.now g.room (asked ∙ c.if-not-asks.false)
    ∙ applies 16 _ _ (ap not (sym c.allowed.ensures ∙ c.if-not-allowed.true)))

pub returns-then-not-key_known : goal.returns-then-not-key_known
returns-then-not-key_known c = let g = c.args in
    let p = procedure_is g.procedure in
    let asked : p.asks (state_of (body_of g.image.now g.entry)) ≡ c.asks.result = sym (c.asks.ensures ∙ ap p.asks c.state_at.ensures) in
    refuses refused.UnknownKey _ (omega arith)
    (past-16 p g.image.now g.entry g.last g.value.now g.room (asked ∙ c.if-not-asks.false)
    (sym c.allowed.ensures ∙ c.if-not-allowed.false)
    ∙ applies 17 _ _ (ap not (sym c.key_known.ensures ∙ c.if-not-key_known.true)))

pub returns-then-not-key_ready : goal.returns-then-not-key_ready
returns-then-not-key_ready c = let g = c.args in
    let p = procedure_is g.procedure in
    let asked : p.asks (state_of (body_of g.image.now g.entry)) ≡ c.asks.result = sym (c.asks.ensures ∙ ap p.asks c.state_at.ensures) in
    refuses refused.WrongKeyState _ (omega arith)
    (past-17 p g.image.now g.entry g.last g.value.now g.room (asked ∙ c.if-not-asks.false)
    (sym c.allowed.ensures ∙ c.if-not-allowed.false)
    (sym c.key_known.ensures ∙ c.if-not-key_known.false)
    ∙ applies 18 _ _ (ap not (sym c.key_ready.ensures ∙ c.if-not-key_ready.true)))

pub returns-then-room-size : goal.returns-then-room-size
returns-then-room-size c = let g = c.args in
    let p = procedure_is g.procedure in
    let asked : p.asks (state_of (body_of g.image.now g.entry)) ≡ c.asks.result = sym (c.asks.ensures ∙ ap p.asks c.state_at.ensures) in
    let sized : c.reply_size-size.result ≡ length (p.reply g.image.now g.entry g.last g.value.now) = c.reply_size-size.ensures g.entry g.last in
    refuses refused.NoRoom _ (omega arith)
    (past-18 p g.image.now g.entry g.last g.value.now g.room (asked ∙ c.if-not-asks.false)
    (sym c.allowed.ensures ∙ c.if-not-allowed.false)
    (sym c.key_known.ensures ∙ c.if-not-key_known.false)
    (sym c.key_ready.ensures ∙ c.if-not-key_ready.false)
    ∙ applies 6 _ _ (lt-ltb g.room _ (omega arith)))

pub returns : goal.returns
returns c = let g = c.args in
    let p = procedure_is g.procedure in
    let asked : p.asks (state_of (body_of g.image.now g.entry)) ≡ c.asks.result = sym (c.asks.ensures ∙ ap p.asks c.state_at.ensures) in
    let sized : c.reply_size-size.result ≡ length (p.reply g.image.now g.entry g.last g.value.now) = c.reply_size-size.ensures g.entry g.last in
    let number = c.new_number-number.ensures (version_of g.image.now) (body_of g.image.now g.entry) (sym c.allowed.ensures ∙ c.if-not-allowed.false) in
    record {
      answer = past-6 p g.image.now g.entry g.last g.value.now g.room (asked ∙ c.if-not-asks.false)
          (sym c.allowed.ensures ∙ c.if-not-allowed.false)
          (sym c.key_known.ensures ∙ c.if-not-key_known.false)
          (sym c.key_ready.ensures ∙ c.if-not-key_ready.false)
          (le-ltb g.room _ (omega arith));
      entry = refl;
      number = number;
      stores = c.plan_of.ensures ∙ ap (λ (n : ℕ). p.stores g.image.now g.entry n g.value.now) number;
      size = sized;
    }
