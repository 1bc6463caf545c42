-- What an answer 0 of securing and of checking means, test by test; and that a result is as long as was decided, so that it fills the start
-- of the output.
-- Assumes nothing.
use Prim.Native.Nat.{ℕ, ◌≤◌, ◌<◌}
use mathlib.Core.Path.{◌≡◌, ap, ◌∙◌}
use mathlib.Core.Bool.{Bool, true, false, not}
use mathlib.Core.List.{List, [], ◌++◌}
use native.Mathlib.Omega.{arith}
use borrow.Author.Tests.{ltb-false, leb-false, le-ltb, not-false}
use lib.Dec.{ltb}
use lib.ListN.{length}
use Rattle.kinds.specs.Kinds.{Kind}
use Rattle.frame.specs.Closing.{field_ok}
use Rattle.frame.specs.Parts.{exceeds, too_short}
use Rattle.frame.specs.Rules.{obeys}
use Rattle.kinds.proofs.Kept.{lawful}
use Rattle.association.specs.Association.{held_in, is_none, the_one}
use Rattle.numbers.specs.Numbers.{greatest, accepts, spent}
use Rattle.association.specs.declared.held.Held.{Held}
use Rattle.judging.specs.Answers.{Test, first}
use Rattle.services.specs.SecurityHeader.{security_length}
use Rattle.protection.specs.Protection.{secured_length, number_in, clear_length}
use Rattle.judging.specs.Replies.{Seen, front_tests, sending_tests, securing_tests, securing, receiving_tests, checking_tests, checking}
use Rattle.judging.specs.Said.{Said, kind_said, no_desk}
use Rattle.judging.proofs.First.{none_left, passes, passed}
use Rattle.protection.proofs.Wire as wire

-- what the association that is seen holds
abbrev pub held_by : Seen → Held
held_by see = held_in (the_one see.found)

-- ---- the tests that come first in both

pub record Fronts (see : Seen) (said : Said) (frame : List ℕ) (secured : Bool) : Type 0 where
  pub valid : see.valid ≡ true
  pub agree : see.agree ≡ true
  pub desk : no_desk said.desk ≡ false
  pub rules : obeys (kind_said said) frame secured ≡ true
  pub field : field_ok (kind_said said) frame ≡ true
  pub found : is_none see.found ≡ false

module _ (see : Seen) (said : Said) (frame : List ℕ) (secured : Bool) (us : List Test) where
  abbrev k : Kind
  k = kind_said said

  pub fronted : first (front_tests see said frame secured ++ us) ≡ 0 → Fronts see said frame secured × (first us ≡ 0)
  fronted e =
      let t1 = passed 1 (not see.valid) _ (omega arith) e in
      let t2 = passed 2 (not see.agree) _ (omega arith) t1.1 in
      let t19 = passed 19 (no_desk said.desk) _ (omega arith) t2.1 in
      let t3 = passed 3 (not (obeys k frame secured)) _ (omega arith) t19.1 in
      let t12 = passed 12 (not (field_ok k frame)) _ (omega arith) t3.1 in
      let t4 = passed 4 (is_none see.found) _ (omega arith) t12.1 in (
        record {
          valid = not-false see.valid t1.0;
          agree = not-false see.agree t2.0;
          desk = t19.0;
          rules = not-false (obeys k frame secured) t3.0;
          field = not-false (field_ok k frame) t12.0;
          found = t4.0;
        },
        t4.1,
      )

  pub past_front : Fronts see said frame secured → first (front_tests see said frame secured ++ us) ≡ first us
  past_front o =
      passes 1 (not see.valid) _ (ap not o.valid)
      ∙ passes 2 (not see.agree) _ (ap not o.agree)
      ∙ passes 19 (no_desk said.desk) _ o.desk
      ∙ passes 3 (not (obeys k frame secured)) _ (ap not o.rules)
      ∙ passes 12 (not (field_ok k frame)) _ (ap not o.field)
      ∙ passes 4 (is_none see.found) _ o.found

-- ---- securing

-- past the tests under what an association holds, after its last number
pub record Sends (h : Held) (last : ℕ) (k : Kind) (frame : List ℕ) (room : ℕ) : Type 0 where
  pub fits : secured_length h frame ≤ k.largest
  pub roomy : secured_length h frame ≤ room
  pub more : last < greatest

pub sends : (h : Held) (last : ℕ) (k : Kind) (frame : List ℕ) (room : ℕ) → first (sending_tests h last k frame room) ≡ 0
    → Sends h last k frame room
sends h last k frame room e =
    let t11 = passed 11 (exceeds k (security_length h) frame) _ (omega arith) e in
    let t6 = passed 6 (ltb room (secured_length h frame)) _ (omega arith) t11.1 in
    let t10 = passed 10 (spent last) _ (omega arith) t6.1 in
    record {
      fits = ltb-false k.largest (secured_length h frame) t11.0;
      roomy = ltb-false room (secured_length h frame) t6.0;
      more = leb-false greatest last t10.0;
    }

pub record Secures (see : Seen) (said : Said) (frame : List ℕ) (room : ℕ) : Type 0 where
  pub front : Fronts see said frame false
  pub under : Sends (held_by see) (the_one see.found).number (kind_said said) frame room

pub secures : (see : Seen) (said : Said) (spi : ℕ) (frame : List ℕ) (room : ℕ) → (securing see said spi frame room).answer ≡ 0
    → Secures see said frame room
unfolding securing securing_tests
secures see said spi frame room e =
    let k = kind_said said in
    let f = fronted see said frame false (sending_tests (held_by see) (the_one see.found).number k frame room) e in
    record { front = f.0; under = sends (held_by see) (the_one see.found).number k frame room f.1 }

-- ---- checking

pub record Receives (h : Held) (last : ℕ) (right : Bool) (k : Kind) (frame : List ℕ) (room : ℕ) : Type 0 where
  pub long : too_short k (security_length h) frame ≡ false
  pub roomy : clear_length h k frame ≤ room
  pub mac : right ≡ true
  pub window : accepts last h.window (number_in h k frame) ≡ true

module _ (h : Held) (last : ℕ) (right : Bool) (k : Kind) (frame : List ℕ) (room : ℕ) where
  abbrev inside : Bool
  inside = accepts last h.window (number_in h k frame)

  pub receives : first (receiving_tests h last right k frame room) ≡ 0 → Receives h last right k frame room
  receives e =
      let t5 = passed 5 (too_short k (security_length h) frame) _ (omega arith) e in
      let t6 = passed 6 (ltb room (clear_length h k frame)) _ (omega arith) t5.1 in
      let t7 = passed 7 (not right) _ (omega arith) t6.1 in
      let t8 = passed 8 (not inside) _ (omega arith) t7.1 in
      record {
        long = t5.0;
        roomy = ltb-false room (clear_length h k frame) t6.0;
        mac = not-false right t7.0;
        window = not-false inside t8.0;
      }

  pub past_receiving : Receives h last right k frame room → first (receiving_tests h last right k frame room) ≡ 0
  past_receiving o =
      passes 5 (too_short k (security_length h) frame) _ o.long
      ∙ passes 6 (ltb room (clear_length h k frame)) _ (le-ltb room (clear_length h k frame) o.roomy)
      ∙ passes 7 (not right) _ (ap not o.mac)
      ∙ passes 8 (not inside) [] (ap not o.window)
      ∙ none_left

pub record Checks (see : Seen) (right : Bool) (said : Said) (frame : List ℕ) (room : ℕ) : Type 0 where
  pub front : Fronts see said frame true
  pub under : Receives (held_by see) (the_one see.found).number right (kind_said said) frame room

module _ (see : Seen) (right : Bool) (said : Said) (frame : List ℕ) (room : ℕ) where
  abbrev behind : List Test
  behind = receiving_tests (held_by see) (the_one see.found).number right (kind_said said) frame room

  pub checks : (checking see right said frame room).answer ≡ 0 → Checks see right said frame room
  unfolding checking checking_tests
  checks e =
      let f = fronted see said frame true behind e in
      record { front = f.0; under = receives (held_by see) (the_one see.found).number right (kind_said said) frame room f.1 }

  pub checks-zero : Checks see right said frame room → (checking see right said frame room).answer ≡ 0
  unfolding checking checking_tests
  checks-zero o =
      past_front see said frame true behind o.front
      ∙ past_receiving (held_by see) (the_one see.found).number right (kind_said said) frame room o.under

-- ---- the length of a result

pub securing-size : (see : Seen) (said : Said) (spi : ℕ) (frame : List ℕ) (room : ℕ) → let q = securing see said spi frame room in
    q.answer ≡ 0 → length q.result ≡ q.size
unfolding securing
securing-size see said spi frame room z =
    let s = secures see said spi frame room z in
    wire.length-secured (held_by see) (kind_said said) (lawful said.field said.kind) spi _ frame s.front.rules s.under.fits

pub checking-size : (see : Seen) (right : Bool) (said : Said) (frame : List ℕ) (room : ℕ) → let q = checking see right said frame room in
    length q.result ≡ q.size
unfolding checking
checking-size see right said frame room =
    wire.length_clear_data (held_by see) (kind_said said) frame
