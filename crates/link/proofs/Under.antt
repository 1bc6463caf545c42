-- Under the entry that the search finds, the reply is that of the entry's association, and so is the number that a check tells; and a refusal
-- by the tests that come first is the whole call's, and no number is told.
-- Assumes nothing.
use Prim.Native.Nat.{ℕ, ◌+◌}
use mathlib.Core.Path.{◌≡◌, refl, sym, ap, ap₂, ◌∙◌}
use mathlib.Core.Bool.{Bool, true, false}
use mathlib.Core.List.{List, []}
use native.Mathlib.Omega.{arith}
use borrow.Author.Tests.{eq-eqb, ne_eqb}
use Rattle.std.specs.Prelude.{Option}
use Rattle.kinds.specs.Kinds.{Kind, framed}
use Rattle.kinds.specs.declared.framing.Framing.{Framing}
use Rattle.image.specs.Image.{body_of, key_of}
use Rattle.association.specs.Association.{Association, association_of, naming_of, held, held_in, the_one, index_of}
use Rattle.numbers.specs.Numbers.{number_of}
use Rattle.association.specs.declared.held.Held.{Held}
use Rattle.association.specs.declared.search.Wanted.{Wanted}
use Rattle.protection.specs.Protection.{secured_length, secured_frame, number_in, mac_right, clear_length, clear_data}
use Rattle.judging.specs.Answers.{first}
use Rattle.judging.specs.Replies.{Seen, seen, Reply, raising, front_tests, sending_tests, securing_tests, securing, receiving_tests, checking_tests, checking}
use Rattle.judging.specs.Said.{Said, kind_said}
use Rattle.judging.specs.Verdicts.{Refuses, Admits, judgement, sending_judged, receiving_judged}
use Rattle.judging.specs.Wants.{securing_wants, checking_wants}
use Rattle.judging.specs.declared.answers.Refusal.{Refusal}
use Rattle.judging.proofs.Answered.{held_by, fronted, past_front}
use Rattle.judging.proofs.First.{stops}
use Rattle.judging.proofs.Searches.{Finds, finds_at}
use Rattle.link.specs.Calls.{securing_entry, securing_reply, checking_entry, matched_number, comparison, checking_reply}
use Rattle.link.specs.Steps.{sending_reply, receiving_reply}

-- ---- what a call reads of an entry is what its association holds

module _ (image last : List ℕ) (i : ℕ) where
  pub held_under : held (body_of image i) (key_of image i) (naming_of image i) ≡ held_in (association_of image last i)
  unfolding association_of
  held_under = refl

  pub number_under_lem : number_of last i ≡ (association_of image last i).number
  unfolding association_of
  number_under_lem = refl

  module _ (h : Held) (l : ℕ) (eh : h ≡ held (body_of image i) (key_of image i) (naming_of image i)) (el : l ≡ number_of last i) where
    pub sending_judged_lem : (k : Kind) (spi : ℕ) (frame : List ℕ) (room : ℕ)
        → sending_judged image i h l k frame room ≡ judgement (sending_reply image last i k spi frame room)
    sending_judged_lem k spi frame room = rw (eh, el, held_under, number_under_lem)

    pub receiving_judged_lem : (k : Kind) (frame : List ℕ) (room : ℕ)
        → receiving_judged image i h l k frame room ≡ judgement (receiving_reply image last i k frame room)
    receiving_judged_lem k frame room = rw (eh, el, held_under, number_under_lem)

-- ---- past the tests that come first, or refused by them

saw-one : (image last : List ℕ) (w : Wanted) (e : ℕ) → Finds image last w e → the_one (seen image last w).found ≡ association_of image last e
unfolding seen
saw-one image last w e f = f.association

module _ (image last : List ℕ) (said : Said) (spi : ℕ) (frame : List ℕ) (room : ℕ) where
  abbrev sends : Seen
  sends = seen image last (securing_wants said spi frame)

  pub securing-refused : (a : Refusal) → Refuses a (first (front_tests sends said frame false))
      → Refuses a (securing_reply image last said spi frame room).answer
  unfolding securing_reply securing securing_tests
  securing-refused a r = rw (stops _ (sending_tests (held_by sends) (the_one sends.found).number (kind_said said) frame room) r.some) r

  -- the reply, from an association, its entry, the kind and an answer
  sent : Association → ℕ → Kind → ℕ → Reply
  sent a i k answer =
      raising image i
      (record {
        answer = answer;
        number = a.number + 1;
        size = secured_length (held_in a) frame;
        result = secured_frame (held_in a) k spi (a.number + 1) frame;
      })

  abbrev decided : Association → Kind → ℕ
  decided a k = first (sending_tests (held_in a) a.number k frame room)

  pub securing_under : (framing : Framing) (e : ℕ) → Admits image last (securing_wants said spi frame) said false frame framing e
      → sending_reply image last e (framed framing) spi frame room ≡ securing_reply image last said spi frame room
  unfolding securing_reply securing securing_tests sent
  securing_under framing e r =
      let f = finds_at image last (securing_wants said spi frame) e r.entry in
      let see : the_one sends.found ≡ association_of image last e = saw-one image last (securing_wants said spi frame) e f in
      let front = (fronted sends said frame false [] r.answer).0 in
      ap₂ (λ (a : Association) (x : Kind). sent a e x (decided a x)) (sym see) r.kinds
      ∙ ap (λ (i : Option ℕ). sent (the_one sends.found) (index_of i) (kind_said said) (decided (the_one sends.found) (kind_said said))) (sym r.entry)
      ∙ ap (sent (the_one sends.found) (securing_entry image said spi frame) (kind_said said)) (sym (past_front sends said frame false _ front))

module _ (image last : List ℕ) (said : Said) (frame : List ℕ) (room : ℕ) where
  abbrev checks : Seen
  checks = seen image last (checking_wants said frame)

  abbrev right : Bool
  right = comparison image last said frame

  pub checking-refused : (a : Refusal) → Refuses a (first (front_tests checks said frame true))
      → Refuses a (checking_reply right image last said frame room).answer
  unfolding checking_reply checking checking_tests
  checking-refused a r = rw (stops _ (receiving_tests (held_by checks) (the_one checks.found).number right (kind_said said) frame room) r.some) r

  received : Association → ℕ → Kind → ℕ → Reply
  received a i k answer =
      raising image i
      (record {
        answer = answer;
        number = number_in (held_in a) k frame;
        size = clear_length (held_in a) k frame;
        result = clear_data (held_in a) k frame;
      })

  abbrev judged : Association → Kind → ℕ
  judged a k = first (receiving_tests (held_in a) a.number (mac_right (held_in a) k frame) k frame room)

  pub checking_under : (framing : Framing) (e : ℕ) → Admits image last (checking_wants said frame) said true frame framing e
      → receiving_reply image last e (framed framing) frame room ≡ checking_reply right image last said frame room
  unfolding checking_reply checking checking_tests comparison received
  checking_under framing e r =
      let f = finds_at image last (checking_wants said frame) e r.entry in
      let see : the_one checks.found ≡ association_of image last e = saw-one image last (checking_wants said frame) e f in
      let front = (fronted checks said frame true [] r.answer).0 in
      ap₂ (λ (a : Association) (x : Kind). received a e x (judged a x)) (sym see) r.kinds
      ∙ ap (λ (i : Option ℕ). received (the_one checks.found) (index_of i) (kind_said said) (judged (the_one checks.found) (kind_said said))) (sym r.entry)
      ∙ ap (received (the_one checks.found) (checking_entry image said frame) (kind_said said)) (sym (past_front checks said frame true _ front))

-- ---- the number that a check tells, of the entry that matched and of no other

module _ (image last : List ℕ) (said : Said) (frame after : List ℕ) where
  abbrev front : ℕ
  front = first (front_tests (seen image last (checking_wants said frame)) said frame true)

  pub told_none : (a : Refusal) → Refuses a front → 0 ≡ matched_number image last said frame after
  unfolding matched_number
  told_none a r = rw (ne_eqb front 0 (λ z. omega (arith, r.some)))

  pub told_under : (framing : Framing) (e : ℕ) → Admits image last (checking_wants said frame) said true frame framing e
      → number_of after e ≡ matched_number image last said frame after
  unfolding matched_number
  told_under framing e r = rw (eq-eqb front 0 r.answer, r.entry)
