-- Two images with their numbers, as two runs have them side by side: valid, agreeing or disagreeing alike, and the same in what the desk
-- sees.
-- Assumes nothing.
use Prim.Native.Nat.{ℕ, ◌<◌}
use mathlib.Core.Path.{◌≡◌, sym, ◌∙◌}
use mathlib.Core.Bool.{true}
use mathlib.Core.List.{List}
use lib.ListN.{length}
use Rattle.octets.specs.Lists.{Octets}
use Rattle.image.specs.Image.{valid_image}
use Rattle.numbers.specs.Numbers.{agrees}
use Rattle.promises.specs.Images.{version_in, count_in, owner_at, last_at}
use Rattle.promises.specs.Isolation.{Standing}
use Rattle.promises.proofs.Valids.{rules-kept, agreement}
use Rattle.desks.proofs.Calls.{Twin}
use Rattle.desks.proofs.Shared.{Framed, Same, same-framed, same_back}
use Rattle.judging.specs.Replies.{Reply}

pub record Both (d : ℕ) (s l t r : List ℕ) : Type 0 where
  pub octets : Octets s
  pub octets_there : Octets t
  pub passed : valid_image s ≡ true
  pub passed_there : valid_image t ≡ true
  pub four : version_in s ≡ 4
  pub thirty_two : length l ≡ 32
  pub thirty_two_there : length r ≡ 32
  pub agree : agrees t r ≡ agrees s l
  pub same : Same d s t
  pub numbers : (i : ℕ) → i < count_in s → owner_at s i ≡ d → last_at r i ≡ last_at l i

module _ {d : ℕ} {s l t r : List ℕ} (b : Both d s l t r) where
  pub frame : Framed s t
  frame = same-framed d s t b.four b.same

  pub later : version_in t ≡ 4
  later = frame.version ∙ b.four

  pub back : Both d t r s l
  back =
      record {
        octets = b.octets_there;
        octets_there = b.octets;
        passed = b.passed_there;
        passed_there = b.passed;
        four = later;
        thirty_two = b.thirty_two_there;
        thirty_two_there = b.thirty_two;
        agree = sym b.agree;
        same = same_back d s t b.four b.same;
        numbers = λ i below own.
            let h : i < count_in s = rw frame.count at below in sym (b.numbers i h (sym (frame.owner i h) ∙ own));
      }

  pub standing : agrees s l ≡ true → Standing s l
  standing a = record { octets = b.octets; valid = rules-kept s b.octets b.passed; agree = agreement s l b.octets a }

  pub standing_there : agrees s l ≡ true → Standing t r
  standing_there a =
      record {
        octets = b.octets_there;
        valid = rules-kept t b.octets_there b.passed_there;
        agree = agreement t r b.octets_there (b.agree ∙ a);
      }

pub twin_back : (q u : Reply) → Twin u q → Twin q u
twin_back q u w = record { answer = sym w.answer; entry = sym w.entry; number = sym w.number; stores = sym w.stores }
