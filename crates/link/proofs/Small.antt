-- What a call reports is small: at most 2,048 octets, since that is the largest frame, and at most 16 stores, since the number that it uses
-- is at most 1,024 above the last.
-- Assumes nothing.
use Prim.Native.Nat.{ℕ, ◌+◌, ◌≤◌, ◌<◌}
use mathlib.Core.Path.{◌≡◌, refl, sym, ap, ◌∙◌}
use mathlib.Core.Bool.{Bool, true, false, cond}
use mathlib.Core.List.{List, []}
use native.Mathlib.Nat.{le_trans}
use native.Mathlib.Omega.{arith}
use borrow.Author.Tests.{eqb-true}
use lib.Dec.{eqb}
use lib.ListN.{length, length-take, length-drop}
use Rattle.std.specs.Prelude.{Option, Some, None}
use Rattle.kinds.specs.Kinds.{Kind, kind_behind, named}
use Rattle.frame.specs.Parts.{secured_content}
use Rattle.kinds.specs.declared.kinds.Kind as code
use Rattle.frame.proofs.Room.{obeyed}
use Rattle.kinds.proofs.Sizes.{largest-most}
use Rattle.octets.proofs.Alls.{and_left, and_right}
use Rattle.bodies.specs.Body.{state_of, operational, most_window}
use Rattle.image.specs.Image.{count_of, body_of, valid_image}
use Rattle.image.proofs.ValidImages.{valid}
use Rattle.association.specs.Association.{Association, association_of, held, held_in, is_none, the_one, matching, index_of}
use Rattle.numbers.specs.Numbers.{number_of, agrees}
use Rattle.association.specs.Search.{body_serves, matches, entry_for}
use Rattle.numbers.specs.Stores.{stores_for}
use Rattle.association.specs.declared.held.Held.{Held}
use Rattle.association.specs.declared.search.Wanted.{Wanted}
use Rattle.numbers.proofs.Agreement.{accepted}
use Rattle.numbers.proofs.LoadedNumbers.{agreed}
use Rattle.judging.specs.Wants.{securing_wants, checking_wants}
use Rattle.link.specs.Calls.{Left, refused, done, left, loaded, securing_reply, secured, checking_reply, checked_as, checked}
use Rattle.protection.specs.Protection.{text_in, number_in, clear_length}
use Rattle.judging.specs.Replies.{Reply, seen, securing, checking}
use Rattle.judging.specs.Said.{Said, kind_said}
use Rattle.judging.proofs.Answered.{secures, checks}
use Rattle.link.proofs.Carried.{counted}
use Rattle.link.proofs.Under.{number_under_lem}
use Rattle.judging.proofs.Searches.{finds}

pub record Small (x : Left) : Type 0 where
  pub short : x.length ≤ 2048
  pub few : x.stores ≤ 16

-- a refusal reports nothing
pub small-refused : (n : ℕ) (image last output : List ℕ) → Small (refused n image last output)
small-refused n image last output = record { short = omega arith; few = omega arith }

pub small_either : (t : Bool) {x y : Left} → Small x → Small y → Small (cond t x y)
small_either true a b = a
small_either false a b = b

small-left : (q : Reply) (image last output : List ℕ) → (q.answer ≡ 0 → (q.size ≤ 2048) × (length q.stores ≤ 16))
    → Small (left q image last output)
small-left q image last output s = by_answer (eqb q.answer 0) refl
  where
    by_answer : (t : Bool) → eqb q.answer 0 ≡ t → Small (cond t (done q image last output) (refused q.answer image last output))
    by_answer true z = let b = s (eqb-true q.answer 0 z) in record { short = b.0; few = b.1 }
    by_answer false z = small-refused q.answer image last output

-- ---- few stores

-- an association that serves is operational, so its window is one that fits
pub window-small : (image last : List ℕ) (w : Wanted) (e : ℕ) → valid_image image ≡ true → e < count_of image → matches image w e ≡ true
    → (held_in (association_of image last e)).window ≤ most_window
unfolding association_of held matches body_serves
window-small image last w e passed below serves =
    let state : state_of (body_of image e) ≡ operational = eqb-true (state_of (body_of image e)) operational (search (and_left, and_right)) in
    (((valid image passed).entry e below).body.window state).1

module _ (image last : List ℕ) (w : Wanted) (passed : valid_image image ≡ true) (agree : agrees image last ≡ true)
    (some : is_none (matching image last w) ≡ false) where
  abbrev a : Association
  a = the_one (matching image last w)

  abbrev e : ℕ
  e = index_of (entry_for image w)

  few-stores : (n : ℕ) → n ≤ a.number + 1024 → length (stores_for image e n) ≤ 16
  few-stores n near =
      let f = finds image last w some in
      let number_is : a.number ≡ number_of last e =
      ap (λ (x : Association). x.number) f.association ∙ sym (number_under_lem image last e)
      in
      omega (arith, counted image e n passed f.below, agreed image last agree e f.below)

  window-found : (held_in a).window ≤ most_window
  window-found =
      let f = finds image last w some in
      let same : (held_in a).window ≡ (held_in (association_of image last e)).window =
      ap (λ (x : Association). (held_in x).window) f.association
      in
      omega (arith, window-small image last w e passed f.below f.passes)

-- ---- a short result

largest_of : (n : Option code.Kind) → (kind_behind n).largest ≤ 2048
largest_of (Some k) = largest-most k
largest_of None = omega arith

clear_inside : (h : Held) (k : Kind) (frame : List ℕ) → clear_length h k frame ≤ length frame
unfolding clear_length text_in secured_content
clear_inside h k frame = simp (length-take, length-drop) (omega arith)

-- ---- the calls

pub loaded-small : (image last : List ℕ) → Small (loaded image last)
unfolding loaded
loaded-small image last =
    small_either (valid_image image) (record { short = omega arith; few = omega arith }) (small-refused 1 image last [])

pub secured-small : (image last : List ℕ) (said : Said) (spi : ℕ) (frame output : List ℕ) → Small (secured image last said spi frame output)
unfolding secured securing_reply securing seen
secured-small image last said spi frame output =
    let w = securing_wants said spi frame in
    let q = securing_reply image last said spi frame (length output) in
    small-left q image last output λ z.
    let ok = secures (seen image last w) said spi frame (length output) z in (
      le_trans ok.under.fits (largest_of (named said.kind)),
      few-stores image last w ok.front.valid ok.front.agree ok.front.found _ (omega arith),
    )

pub checked_as_small : (right : Bool) (image last : List ℕ) (said : Said) (frame output : List ℕ)
    → Small (checked_as right image last said frame output)
unfolding checked_as checking_reply checking seen
checked_as_small right image last said frame output =
    let w = checking_wants said frame in
    let k = kind_said said in
    let h = held_in (the_one (matching image last w)) in
    let q = checking_reply right image last said frame (length output) in
    small-left q image last output λ z.
    let ok = checks (seen image last w) right said frame (length output) z in
    let took = accepted (the_one (matching image last w)).number h.window (number_in h k frame) ok.under.window in (
      le_trans (clear_inside h k frame) (le_trans (obeyed k frame true ok.front.rules).largest (largest_of (named said.kind))),
      few-stores image last w ok.front.valid ok.front.agree ok.front.found (number_in h k frame)
          (omega (arith, took.near, window-found image last w ok.front.valid ok.front.agree ok.front.found)),
    )

pub checked-small : (image last : List ℕ) (said : Said) (frame output : List ℕ) → Small (checked image last said frame output)
unfolding checked
checked-small image last said frame output = checked_as_small _ image last said frame output
