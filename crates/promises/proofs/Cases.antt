-- Cases A to L hold, by computing; and case L with a check field, by computing all but the field, which is right by a law.
-- Assumes nothing.
use Prim.Native.Nat.{ℕ}
use mathlib.Core.Path.{◌≡◌, refl, ap, ◌∙◌}
use mathlib.Core.Bool.{true, false}
use lib.ListN.{length}
use Rattle.check_field.proofs.Laws.{right_with}
use Rattle.kinds.specs.Kinds.{Kind}
use Rattle.frame.specs.Closing.{field_ok}
use Rattle.association.specs.Association.{the_one}
use Rattle.link.specs.Calls.{Left, securing_reply, secured}
use Rattle.judging.specs.Answers.{first}
use Rattle.judging.specs.Replies.{Seen, seen, Reply, sending_tests, securing, securing_tests}
use Rattle.judging.specs.Said.{kind_said}
use Rattle.judging.specs.Wants.{securing_wants}
use Rattle.judging.proofs.Answered.{held_by, Fronts, past_front}
use Rattle.link.proofs.Leaving.{left-answer, left-done}
use Rattle.promises.specs.Cases.{cases, CasesHold, one_number, fielded, room, image_b, fielded_tc, FieldCounted}
use Rattle.promises.proofs.Computing.{everything}

pub cases_hold : CasesHold
unfolding everything cases
cases_hold = refl

-- ---- with a check field

abbrev k : Kind
k = kind_said (fielded 1)

right : (n : ℕ) → field_ok k (fielded_tc n) ≡ true
unfolding field_ok fielded_tc
right n = right_with _

module _ (n : ℕ) where
  abbrev sees : Seen
  sees = seen image_b (one_number 63) (securing_wants (fielded 1) 9 (fielded_tc n))

  abbrev reply : Reply
  reply = securing_reply image_b (one_number 63) (fielded 1) 9 (fielded_tc n) (length room)

  decided : Fronts sees (fielded 1) (fielded_tc n) false
      → reply.answer ≡ first (sending_tests (held_by sees) (the_one sees.found).number k (fielded_tc n) (length room))
  unfolding securing_reply securing securing_tests
  decided f = past_front sees (fielded 1) (fielded_tc n) false _ f

fronts_fit : Fronts (sees 1002) (fielded 1) (fielded_tc 1002) false
unfolding everything fielded_tc
fronts_fit = record { valid = refl; agree = refl; desk = refl; rules = refl; field = right 1002; found = refl }

fronts_exceed : Fronts (sees 1003) (fielded 1) (fielded_tc 1003) false
unfolding everything fielded_tc
fronts_exceed = record { valid = refl; agree = refl; desk = refl; rules = refl; field = right 1003; found = refl }

passes_all : first (sending_tests (held_by (sees 1002)) (the_one (sees 1002).found).number k (fielded_tc 1002) (length room)) ≡ 0
unfolding everything fielded_tc
passes_all = refl

too_long : first (sending_tests (held_by (sees 1003)) (the_one (sees 1003).found).number k (fielded_tc 1003) (length room)) ≡ 11
unfolding everything fielded_tc
too_long = refl

sized : (reply 1002).size ≡ 1024
unfolding everything fielded_tc
sized = refl

pub field-counted : FieldCounted
unfolding secured
field-counted =
    let done = decided 1002 fronts_fit ∙ passes_all in
    record {
      done = left-answer (reply 1002) image_b (one_number 63) room ∙ done;
      size = ap (λ (x : Left). x.length) (left-done (reply 1002) image_b (one_number 63) room done) ∙ sized;
      exceeding = left-answer (reply 1003) image_b (one_number 63) room ∙ decided 1003 fronts_exceed ∙ too_long;
    }
