-- Document 01, 'What comes back': what securing and checking decide before they store or write anything.
-- Assumes nothing.
use Rattle.std.specs.Prelude.{ℕ, ◌+◌, Bool, true, false, not, List, [], ◌∷◌, ◌++◌, ltb}
use Rattle.kinds.specs.Kinds.{Kind}
use Rattle.frame.specs.Closing.{field_ok}
use Rattle.frame.specs.Parts.{exceeds, too_short}
use Rattle.frame.specs.Rules.{obeys}
use Rattle.association.specs.Association.{held_in, Match, is_none, the_one, matching}
use Rattle.image.specs.Image.{valid_image}
use Rattle.numbers.specs.Numbers.{agrees, accepts, spent}
use Rattle.numbers.specs.Stores.{stores_for}
use Rattle.marks.specs.declared.plans.Store.{Store}
use Rattle.association.specs.declared.held.Held.{Held}
use Rattle.association.specs.declared.search.Wanted.{Wanted}
use Rattle.judging.specs.Answers.{Test, first}
use Rattle.services.specs.SecurityHeader.{security_length}
use Rattle.protection.specs.Protection.{secured_length, secured_frame, number_in, clear_length, clear_data}
use Rattle.judging.specs.Said.{Said, kind_said, no_desk}

-- what a call sees of an image and its numbers: whether every rule holds, whether they agree, and the association that matches
pub record Seen : Type 0 where
  pub valid : Bool
  pub agree : Bool
  pub found : Match

unfoldable pub seen : List ℕ → List ℕ → Wanted → Seen
seen image last w = record { valid = valid_image image; agree = agrees image last; found = matching image last w }

-- what is decided from that alone: the answer and, where it is 0, the number that is used, the length of the result, and the result
pub record Decision : Type 0 where
  pub answer : ℕ
  pub number : ℕ
  pub size : ℕ
  pub result : List ℕ

-- a call decided, and not yet carried out: the answer and, where it is 0, the entry that is used and its new number, the octet stores in
-- their order, the length of the result, and the result
pub record Reply : Type 0 where
  pub answer : ℕ
  pub entry : ℕ
  pub number : ℕ
  pub stores : List Store
  pub size : ℕ
  pub result : List ℕ

-- sending and checking store what raises the mark of their entry to that of the number
abbrev pub raising : List ℕ → ℕ → Decision → Reply
raising image e d =
    record {
      answer = d.answer;
      entry = e;
      number = d.number;
      stores = stores_for image e d.number;
      size = d.size;
      result = d.result;
    }

-- ---- the tests that come first in both

abbrev pub front_tests : Seen → Said → List ℕ → Bool → List Test
front_tests see said frame secured =
    (1, not see.valid)
    ∷ (2, not see.agree)
    ∷ (19, no_desk said.desk)
    ∷ (3, not (obeys (kind_said said) frame secured))
    ∷ (12, not (field_ok (kind_said said) frame))
    ∷ (4, is_none see.found)
    ∷ []

-- ---- securing a clear frame, with that much room in the output

-- under what the association that matches holds, after the last number that it used
abbrev pub sending_tests : Held → ℕ → Kind → List ℕ → ℕ → List Test
sending_tests h last k frame room =
    (11, exceeds k (security_length h) frame)
    ∷ (6, ltb room (secured_length h frame))
    ∷ (10, spent last)
    ∷ []

unfoldable pub securing_tests : Seen → Said → List ℕ → ℕ → List Test
securing_tests see said frame room =
    let a = the_one see.found in
    front_tests see said frame false ++ sending_tests (held_in a) a.number (kind_said said) frame room

-- sending uses last + 1
unfoldable pub securing : Seen → Said → ℕ → List ℕ → ℕ → Decision
securing see said spi frame room =
    let a = the_one see.found in
    let h = held_in a in
    let n = a.number + 1 in
    record {
      answer = first (securing_tests see said frame room);
      number = n;
      size = secured_length h frame;
      result = secured_frame h (kind_said said) spi n frame;
    }

-- ---- checking a secured frame; `right` is how the comparison of its MAC falls out

-- under what the association that matches holds, after the last number that it used
abbrev pub receiving_tests : Held → ℕ → Bool → Kind → List ℕ → ℕ → List Test
receiving_tests h last right k frame room =
    (5, too_short k (security_length h) frame)
    ∷ (6, ltb room (clear_length h k frame))
    ∷ (7, not right)
    ∷ (8, not (accepts last h.window (number_in h k frame)))
    ∷ []

unfoldable pub checking_tests : Seen → Bool → Said → List ℕ → ℕ → List Test
checking_tests see right said frame room =
    let a = the_one see.found in
    front_tests see said frame true ++ receiving_tests (held_in a) a.number right (kind_said said) frame room

unfoldable pub checking : Seen → Bool → Said → List ℕ → ℕ → Decision
checking see right said frame room =
    let a = the_one see.found in
    let h = held_in a in
    let n = number_in h (kind_said said) frame in
    record {
      answer = first (checking_tests see right said frame room);
      number = n;
      size = clear_length h (kind_said said) frame;
      result = clear_data h (kind_said said) frame;
    }
