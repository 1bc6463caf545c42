-- Two ends of a link, with an entry of SPI 9 each, of images of any two versions: where what the round trip asks of them computes to true, the
-- other end releases what one end secures.
-- Assumes nothing.
use Prim.Native.Nat.{ℕ, zero, suc}
use mathlib.Core.Path.{◌≡◌, refl, sym, ◌∙◌}
use mathlib.Core.Bool.{Bool, true, false, not, ◌||◌}
use mathlib.Core.List.{List, [], ◌∷◌}
use native.Mathlib.Omega.{arith}
use borrow.Author.Tests.{eqb-true, eq-eqb, leb-true, ltb-true}
use lib.Dec.{eqb, leb, ltb}
use lib.ListN.{length, get_or}
use Rattle.octets.specs.Same.{same}
use Rattle.octets.proofs.Alls.{and_left, and_right}
use Rattle.octets.proofs.Sameness.{same_eq}
use Rattle.image.specs.Image.{version_of, body_of, valid_image}
use Rattle.numbers.specs.Numbers.{agrees}
use Rattle.bodies.specs.Body.{owner_of}
use Rattle.association.specs.Search.{serves_channel, sees}
use Rattle.link.specs.Calls.{handed, secured, checked}
use Rattle.judging.specs.Said.{Said, kind_said}
use Rattle.promises.specs.Cases.{all_true, image_with, one_number, room}
use Rattle.promises.specs.Frames.{data_in_clear, number_on}
use Rattle.promises.specs.Images.{shape_in, count_in, spi_at, service_at, kind_at, direction_at, state_at, spacecraft_at, map_at, window_at, mask_at, key_octets_at}
use Rattle.promises.specs.RoundTrip.{Released}
use Rattle.promises.proofs.RoundTrip.{round_trip}
use Rattle.promises.proofs.Readings.{form}
use Rattle.promises.proofs.Valids.{rules-kept, agreement, channel-served, seen-kept}
use Rattle.witness_frames.proofs.Computed.{are_octets, octets_of_lem}

-- one of several tests that are all true
nth : (n : ℕ) (tests : List Bool) → all_true tests ≡ true → get_or tests n true ≡ true
nth n [] e = refl
nth zero (t ∷ ts) e = and_left t (all_true ts) e
nth (suc n) (t ∷ ts) e = nth n ts (and_right t (all_true ts) e)

-- both, or neither
abbrev alike : Bool → Bool → Bool
alike true b = b
alike false b = not b

alike_so : (a b : Bool) → alike a b ≡ true → a ≡ b
alike_so true b e = sym e
alike_so false true e = let z : ◌≡◌ {A = ℕ} 0 1 = cc in absurd (omega arith)
alike_so false false e = refl

asked : (a b : Bool) → (not a || b) ≡ true → a ≡ true → b ≡ true
asked true b e t = e
asked false b e t = let z : ◌≡◌ {A = ℕ} 0 1 = cc in absurd (omega arith)

module _ (here there : List ℕ) (said : Said) (frame : List ℕ) where
  abbrev pub sent_over : List ℕ
  sent_over = handed (secured here (one_number 63) said 9 frame room)

  -- what has to be computed: a valid image there, an answer 0 here, entries of SPI 9 that agree, IVs made alike where there is an IV, a number
  -- in the window, room for the data, and a desk that sees the entry
  abbrev tests : List Bool
  tests =
      are_octets there
      ∷ valid_image there
      ∷ agrees there (one_number 63)
      ∷ eqb (secured here (one_number 63) said 9 frame room).answer 0
      ∷ ltb 0 (count_in here)
      ∷ ltb 0 (count_in there)
      ∷ eqb (spi_at here 0) 9
      ∷ eqb (spi_at there 0) 9
      ∷ eqb (service_at there 0) (service_at here 0)
      ∷ eqb (kind_at there 0) (kind_at here 0)
      ∷ same (key_octets_at there 0) (key_octets_at here 0)
      ∷ (not (eqb (service_at here 0) 2) || alike (shape_in there).key_part (shape_in here).key_part)
      ∷ same (mask_at there 0) (mask_at here 0)
      ∷ eqb (spacecraft_at there 0) (spacecraft_at here 0)
      ∷ serves_channel (version_of there) (body_of there 0) ((kind_said said).channel frame)
      ∷ eqb (map_at there 0) (map_at here 0)
      ∷ eqb (direction_at there 0) 2
      ∷ eqb (state_at there 0) 2
      ∷ eqb (window_at there 0) 100
      ∷ eqb (number_on (shape_in here) (service_at here 0) said sent_over) 64
      ∷ leb (length (data_in_clear said frame)) (length room)
      ∷ sees said.desk (owner_of (version_of there) (body_of there 0))
      ∷ []

  abbrev pub meets_between : Bool
  meets_between = all_true tests

  pub released_over : meets_between ≡ true → Released (data_in_clear said frame) (checked there (one_number 63) said sent_over room)
  released_over e =
      let octets = octets_of_lem there (nth 0 tests e) in
      let spi-here = eqb-true (spi_at here 0) 9 (nth 6 tests e) in
      let ivs = nth 11 tests e in
      let window : window_at there 0 ≡ 100 = eqb-true (window_at there 0) 100 (nth 18 tests e) in
      let number : number_on (shape_in here) (service_at here 0) said sent_over ≡ 64 =
      eqb-true (number_on (shape_in here) (service_at here 0) said sent_over) 64 (nth 19 tests e)
      in
      round_trip.released here (one_number 63) said 9 frame room there (one_number 63) room 0 0 said.desk octets
      (eqb-true (secured here (one_number 63) said 9 frame room).answer 0 (nth 3 tests e)) (ltb-true 0 (count_in here) (nth 4 tests e)) spi-here
      (record {
        valid = rules-kept there octets (nth 1 tests e);
        agree = agreement there (one_number 63) octets (nth 2 tests e);
        entry = ltb-true 0 (count_in there) (nth 5 tests e);
        seen = seen-kept there said.desk 0 (nth 21 tests e);
        spi = eqb-true (spi_at there 0) 9 (nth 7 tests e) ∙ sym spi-here;
        service = eqb-true (service_at there 0) (service_at here 0) (nth 8 tests e);
        kind = eqb-true (kind_at there 0) (kind_at here 0) (nth 9 tests e);
        key = same_eq (key_octets_at there 0) (key_octets_at here 0) (nth 10 tests e);
        iv = λ two.
            alike_so (shape_in there).key_part (shape_in here).key_part
            (asked (eqb (service_at here 0) 2) (alike (shape_in there).key_part (shape_in here).key_part) ivs (eq-eqb (service_at here 0) 2 two));
        mask = same_eq (mask_at there 0) (mask_at here 0) (nth 12 tests e);
        spacecraft = eqb-true (spacecraft_at there 0) (spacecraft_at here 0) (nth 13 tests e);
        channel = rw ((form said).channel frame) (channel-served there 0 ((kind_said said).channel frame) (nth 14 tests e));
        map = eqb-true (map_at there 0) (map_at here 0) (nth 15 tests e);
        direction = eqb-true (direction_at there 0) 2 (nth 16 tests e);
        state = eqb-true (state_at there 0) 2 (nth 17 tests e);
      })
      (rw (number, window) (record { above = omega arith; near = omega arith; most = omega arith }))
      (leb-true (length (data_in_clear said frame)) (length room) (nth 20 tests e))

-- ---- between images of version 1 or 2, under any service and any kind, with any two channel octets

module _ (fromVersion fromChannel toVersion toChannel service : ℕ) (said : Said) (frame : List ℕ) where
  abbrev pub here : List ℕ
  here = image_with fromVersion fromChannel service said.kind 1 100 0

  abbrev pub there : List ℕ
  there = image_with toVersion toChannel service said.kind 2 100 0

  abbrev pub out : List ℕ
  out = sent_over here there said frame

  abbrev pub meets : Bool
  meets = meets_between here there said frame

  pub released-there : meets ≡ true → Released (data_in_clear said frame) (checked there (one_number 63) said out room)
  released-there e = released_over here there said frame e
