-- A frame with one bit changed breaks its kind's rules, or it does not and then its field is wrong: 12 comes next.
-- Assumes nothing.
use Prim.Native.Nat.{ℕ}
use mathlib.Core.Path.{◌≡◌, refl}
use mathlib.Core.Bool.{Bool, true, false, not}
use mathlib.Core.Logic.{◌⊎◌, inl, inr}
use mathlib.Core.List.{List, ◌∷◌, ◌++◌}
use borrow.Author.Tests.{le-ltb}
use lib.ListN.{length}
use Rattle.check_field.specs.CheckField.{right_field}
use Rattle.check_field.proofs.Laws.{right-flipped}
use Rattle.frame.specs.Closing.{field_ok}
use Rattle.frame.specs.Rules.{obeys}
use Rattle.association.specs.Association.{is_none}
use Rattle.link.specs.Calls.{securing_reply, secured, comparison, checking_reply, checked_as, checked}
use Rattle.judging.specs.Answers.{Test, first}
use Rattle.judging.specs.Replies.{Seen, seen, front_tests, securing_tests, securing, checking_tests, checking}
use Rattle.judging.specs.Said.{Said, kind_said, no_desk}
use Rattle.judging.specs.Wants.{securing_wants, checking_wants}
use Rattle.link.proofs.Leaving.{left-answer}
use Rattle.promises.specs.OneBit.{flipped, BitOf, OneBit}
use Rattle.promises.proofs.Readings.{field_tested}
use Rattle.promises.proofs.Valids.{rules-valid, agreement_tested}

-- past 1, 2 and 19, whatever the rules say, a wrong field leaves no other answer
by-rules : (see : Seen) (said : Said) (frame : List ℕ) (secured : Bool) (behind : List Test) → see.valid ≡ true → see.agree ≡ true
    → no_desk said.desk ≡ false → field_ok (kind_said said) frame ≡ false
    → let answer = first (front_tests see said frame secured ++ behind) in (answer ≡ 3) ⊎ (answer ≡ 12)
unfolding first
by-rules see said frame secured behind v a d f = rw (v, a, d, f) (by_test (obeys (kind_said said) frame secured))
  where
    by_test : (keeps : Bool)
        → let answer = first ((3, not keeps) ∷ (12, true) ∷ (4, is_none see.found) ∷ behind) in (answer ≡ 3) ⊎ (answer ≡ 12)
    by_test true = inr refl
    by_test false = inl refl

-- the field was right, and is wrong
wrong_now : (said : Said) (frame : List ℕ) (p b : ℕ) → BitOf said frame p b → field_ok (kind_said said) (flipped p b frame) ≡ false
unfolding field_ok
wrong_now said frame p b c =
    let was : right_field frame ≡ true = rw c.said_so at (field_tested said frame c.field) in
    rw c.said_so (right-flipped frame p b c.octets c.place c.bit was)

pub one_bit : OneBit
unfolding secured securing_reply securing securing_tests checked checked_as checking_reply checking checking_tests seen
one_bit =
    record {
      sending = λ image numbers said spi frame output p b octets rules agree desk c.
          rw (left-answer (securing_reply image numbers said spi (flipped p b frame) (length output)) image numbers output)
          (by-rules (seen image numbers (securing_wants said spi (flipped p b frame))) said (flipped p b frame) false _
          (rules-valid image octets rules) (agreement_tested image numbers octets agree) (le-ltb 2 said.desk desk) (wrong_now said frame p b c));
      checking = λ image numbers said frame output p b octets rules agree desk c.
          let right = comparison image numbers said (flipped p b frame) in
          rw (left-answer (checking_reply right image numbers said (flipped p b frame) (length output)) image numbers output)
          (by-rules (seen image numbers (checking_wants said (flipped p b frame))) said (flipped p b frame) true _
          (rules-valid image octets rules) (agreement_tested image numbers octets agree) (le-ltb 2 said.desk desk) (wrong_now said frame p b c));
    }
