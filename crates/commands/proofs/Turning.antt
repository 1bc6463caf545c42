-- Request 9: the state octet of one key is stored. Contents, bodies and every other octet of the key part stay, and the image stays valid if
-- each operational body that names this key still finds it active: it was active before, and no operational body names a key that is
-- deactivated.
-- Assumes nothing.
use mathlib.Core.Path.{◌≡◌, refl, sym, ap, ap₂, ◌∙◌}
use mathlib.Core.Logic.{◌≢◌, inl, inr}
use mathlib.Core.Bool.{Bool, true, false, cond, not, ◌&&◌, ◌||◌}
use mathlib.Core.List.{List}
use Prim.Native.Nat.{ℕ, ◌+◌, ◌-◌, ◌*◌, ◌≤◌, ◌<◌}
use native.Mathlib.Decide.{ℕ_discrete, dec_lt}
use native.Mathlib.Omega.{arith}
use borrow.Author.Tests.{eqb-true, eq-eqb, le-leb, ltb-true}
use lib.Dec.{eqb, leb, ltb}
use lib.ListN.{length, set, length-set}
use lib.Seq.{get_or-set_same, get_or-set_other}
use Rattle.octets.specs.Lists.{octet, part, all, Octets}
use Rattle.octets.specs.Numbers.{number_at}
use Rattle.octets.proofs.Alls.{and_left, and_right, all-at, all_every}
use Rattle.octets.proofs.Bounds.{octets-set}
use Rattle.octets.proofs.Outside.{Apart, Outside, Changed, same_number, same-part}
use Rattle.bodies.specs.Body.{body_in, state_of, operational, key_id_of, mark_of, body_ok}
use Rattle.bodies.specs.Layout.{id_length, layout_of}
use Rattle.bodies.proofs.Layouts.{lawful}
use Rattle.keys.specs.Keys.{pre_active, active, deactivated, most_keys, key_place, key_state_place, key_id_at, key_state_at, key_index, key_in_state, id_rises, key_ok, key_part_ok}
use Rattle.keys.proofs.FoundKeys.{index_has}
use Rattle.keys.proofs.SameKeys.{same_index}
use Rattle.image.specs.Image.{version_of, count_of, layout, entry_place, body_at, body_of, mark_in, part_at, key_count, key_with, key_in, key_id_in}
use Rattle.image.specs.Image.{image_size, laid_out, entry_ok, part_spi, last_ok, keyed_ok, keys_ok, valid_image}
use Rattle.image.proofs.Places.{before-part}
use Rattle.image.proofs.ValidImages.{ruled, valid, valid-laid, valid_ruled, valid-keyed}
use Rattle.named_keys.specs.NamedKeys.{has_key, idle_at, unserved, freed}

pub record Turns (image : List ℕ) (id state : ℕ) : Type 0 where
  pub passed : valid_image image ≡ true
  pub known : key_with image id < key_count image
  pub small : state ≤ deactivated
  pub still : (j : ℕ) → j < count_of image → state_of (body_of image j) ≡ operational → key_id_in image j ≡ id → state ≡ active

module _ (image : List ℕ) (id state : ℕ) (t : Turns image id state) where
  abbrev at : ℕ
  at = key_state_place (part_at image) (key_with image id)

  abbrev after : List ℕ
  after = set image at state

  has : (layout image).keys ≡ true
  unfolding key_count
  has = of (layout image).keys refl t.known
    where
      of : (b : Bool) → (layout image).keys ≡ b → key_with image id < cond b (octet image (part_at image)) 0 → (layout image).keys ≡ true
      of true e h = e
      of false e h = absurd (omega arith)

  -- one octet of the key part differs, behind its count
  only : Changed image at 1 after
  only =
      record {
        long = length-set image at state;
        outside = λ p out. get_or-set_other image at p state 0 (elsewhere p out);
      }
    where
      elsewhere : (p : ℕ) → Outside at 1 p → p ≢ at
      elsewhere p (inl h) e = omega arith
      elsewhere p (inr h) e = omega arith

  far : entry_place (count_of image + (layout image).extra) ≤ part_at image
  unfolding part_at
  far = omega arith

  front : (p : ℕ) → p ≤ part_at image → octet after p ≡ octet image p
  front p h = only.outside p (inl (omega arith))

  version : version_of after ≡ version_of image
  version = front 0 (omega (arith, far))

  count : count_of after ≡ count_of image
  count = front 1 (omega (arith, far))

  part_stays : part_at after ≡ part_at image
  unfolding part_at
  part_stays = cc (version, count)

  keys_stay : key_count after ≡ key_count image
  unfolding key_count
  keys_stay = cc (version, part_stays, front (part_at image) (omega arith))

  size-stays : image_size after ≡ image_size image
  unfolding image_size
  size-stays = cc (version, part_stays, keys_stay)

  laid-stays : laid_out after ≡ laid_out image
  unfolding laid_out
  laid-stays = let l : length after ≡ length image = only.long in cc (version, count, size-stays)

  place-stays : (j : ℕ) → body_at after j ≡ body_at image j
  unfolding body_at
  place-stays j = cc (version, count)

  body-stays : (j : ℕ) → j < count_of image → body_of after j ≡ body_of image j
  unfolding body_of body_in
  body-stays j h =
      ap₂ (λ (p v : ℕ). part p (layout_of v).body after) (place-stays j) version
      ∙ same-part only (body_at image j) (layout image).body (inl (omega (arith, before-part image j h)))

  number-stays : (p : ℕ) → p + 2 ≤ part_at image → number_at p 2 after ≡ number_at p 2 image
  number-stays p h = same_number only p 2 (inl (omega arith))

  entry-stays : (j : ℕ) → j < count_of image → entry_ok after j ≡ entry_ok image j
  unfolding entry_ok
  entry-stays j h =
      cc (
        number-stays (entry_place j) (omega (arith, far)),
        number-stays (entry_place (j - 1)) (omega (arith, far)),
        number-stays (entry_place j + 2) (omega (arith, far)),
        place-stays j,
      )

  rules_stay : (j : ℕ) → j < count_of image → ruled after j ≡ ruled image j
  rules_stay j h = ap₂ ◌&&◌ (entry-stays j h) (ap₂ body_ok version (body-stays j h))

  -- the marks
  pub marks_stay : (j : ℕ) → j < count_of image → mark_in after j ≡ mark_in image j
  unfolding mark_in
  marks_stay j h = ap₂ mark_of version (body-stays j h)

  -- ---- the keys

  ids_stay : (k : ℕ) → key_id_at after (part_at image) k ≡ key_id_at image (part_at image) k
  ids_stay k = same_number only (key_place (part_at image) k) id_length (by_place (dec_lt (key_with image id) k))
    where
      by_place : Dec (key_with image id < k) → Apart at 1 (key_place (part_at image) k) id_length
      by_place (yes h) = inr (omega arith)
      by_place (no h) = inl (omega arith)

  index_stays : (x : ℕ) → key_index after (part_at image) (key_count image) x ≡ key_index image (part_at image) (key_count image) x
  index_stays x = same_index image after (part_at image) ids_stay (key_count image) x

  inside : at < length image
  unfolding image_size
  inside =
      let size : length image ≡ part_at image + (1 + 35 * key_count image) = rw has at (valid image t.passed).laid.size in
      omega (arith, t.known)

  pub state_new : key_state_at after (part_at image) (key_with image id) ≡ state
  state_new = get_or-set_same image at state 0 inside

  state-other : (k : ℕ) → k ≢ key_with image id → key_state_at after (part_at image) k ≡ key_state_at image (part_at image) k
  state-other k other = get_or-set_other image at (key_state_place (part_at image) k) state 0 (λ e. other (omega arith))

  -- the rules that the key part keeps: its entry, its keys, and how many they are
  part-rules : (last_ok image ≡ true) × (all (key_count image) (key_ok image (part_at image)) ≡ true) × (leb (key_count image) most_keys ≡ true)
  unfolding keys_ok key_part_ok
  part-rules =
      let tests : (last_ok image && (leb (key_count image) most_keys && all (key_count image) (key_ok image (part_at image))) && all (count_of image) (keyed_ok image)) ≡ true =
      rw has at (valid-keyed image t.passed)
      in
      (search (and_left, and_right) depth 9, search (and_left, and_right) depth 9, search (and_left, and_right) depth 9)

  key-stays : (k : ℕ) → k < key_count image → key_ok after (part_at image) k ≡ true
  unfolding key_ok
  key-stays k h = of (ℕ_discrete k (key_with image id))
    where
      old : (leb (key_state_at image (part_at image) k) deactivated && id_rises image (part_at image) k) ≡ true
      old = all-at (key_count image) (key_ok image (part_at image)) part-rules.1 k h

      rises : id_rises after (part_at image) k ≡ true
      rises =
          ap₂ (λ (x y : ℕ). cond (eqb k 0) true (ltb x y)) (ids_stay (k - 1)) (ids_stay k)
          ∙ and_right (leb (key_state_at image (part_at image) k) deactivated) (id_rises image (part_at image) k) old

      of : Dec (k ≡ key_with image id) → (leb (key_state_at after (part_at image) k) deactivated && id_rises after (part_at image) k) ≡ true
      of (yes e) = ap₂ ◌&&◌ (le-leb (key_state_at after (part_at image) k) deactivated (rw (e, state_new) t.small)) rises
      of (no other) =
          ap₂ ◌&&◌
          (ap (λ (x : ℕ). leb x deactivated) (state-other k other)
          ∙ and_left (leb (key_state_at image (part_at image) k) deactivated) (id_rises image (part_at image) k) old)
          rises

  -- ---- each operational body still names an active key

  serving : (j : ℕ) → j < count_of image → state_of (body_of image j) ≡ operational
      → key_in_state after (part_at image) (key_count image) active (key_id_in image j) ≡ true
  unfolding key_in_state
  serving j h serves = rw (index_stays (key_id_in image j)) (ap₂ ◌&&◌ there (of (ℕ_discrete m (key_with image id))))
    where
      m : ℕ
      m = key_index image (part_at image) (key_count image) (key_id_in image j)

      old : (ltb m (key_count image) && eqb (key_state_at image (part_at image) m) active) ≡ true
      old = ((valid image t.passed).keyed has).serves j h serves

      there : ltb m (key_count image) ≡ true
      there = and_left (ltb m (key_count image)) (eqb (key_state_at image (part_at image) m) active) old

      of : Dec (m ≡ key_with image id) → eqb (key_state_at after (part_at image) m) active ≡ true
      of (yes e) =
          let own = index_has image (part_at image) (key_id_in image j) (key_count image) (ltb-true m (key_count image) there) in
          let its = index_has image (part_at image) id (key_count image) t.known in
          let named : key_id_in image j ≡ id = sym own ∙ ap (key_id_at image (part_at image)) e ∙ its in
          rw (e, state_new) (eq-eqb state active (t.still j h serves named))
      of (no other) =
          ap (λ (x : ℕ). eqb x active) (state-other m other)
          ∙ and_right (ltb m (key_count image)) (eqb (key_state_at image (part_at image) m) active) old

  keyed_stays : (j : ℕ) → j < count_of image → keyed_ok after j ≡ true
  keyed_stays j h =
      rw (body-stays j h)
      (ap (λ (v : ℕ). not (eqb (state_of (body_of image j)) operational) || key_in after active (key_id_of v (body_of image j))) version
      ∙ rw (part_stays, keys_stay) (of (eqb (state_of (body_of image j)) operational) refl))
    where
      of : (b : Bool) → eqb (state_of (body_of image j)) operational ≡ b
          → (not b || key_in_state after (part_at image) (key_count image) active (key_id_in image j)) ≡ true
      of true e = serving j h (eqb-true (state_of (body_of image j)) operational e)
      of false e = refl

  last_stays : last_ok after ≡ true
  last_stays =
      let extra : 1 ≤ (layout image).extra = (lawful (version_of image)).entry has in
      rw (count, part_stays)
      (ap₂ (λ (x y : ℕ). eqb x part_spi && eqb y (part_at image)) (number-stays (entry_place (count_of image)) (omega (arith, far)))
      (number-stays (entry_place (count_of image) + 2) (omega (arith, far)))
      ∙ part-rules.0)

  part_ok : key_part_ok after (part_at after) (key_count after) ≡ true
  unfolding key_part_ok
  part_ok =
      ap₂ (key_part_ok after) part_stays keys_stay
      ∙ ap₂ ◌&&◌ part-rules.2 (all_every (key_count image) (key_ok after (part_at image)) key-stays)

  keys_ok_lem : keys_ok after ≡ true
  unfolding keys_ok
  keys_ok_lem =
      ap₂ (λ (b t : Bool). not b || t) (ap (λ (v : ℕ). (layout_of v).keys) version ∙ has)
      (ap₂ ◌&&◌ (ap₂ ◌&&◌ last_stays part_ok)
      (ap (λ (k : ℕ). all k (keyed_ok after)) count ∙ all_every (count_of image) (keyed_ok after) keyed_stays))

  pub turned_valid : valid_image after ≡ true
  unfolding valid_image
  turned_valid =
      ap₂ ◌&&◌
      (ap₂ ◌&&◌ (laid-stays ∙ valid-laid image t.passed)
      (ap (λ (k : ℕ). all k (ruled after)) count
      ∙ all_every (count_of image) (ruled after) (λ j h. rules_stay j h ∙ valid_ruled image t.passed j h)))
      keys_ok_lem

  pub turned_octets : Octets image → Octets after
  turned_octets octets = octets-set image at state octets (omega (arith, t.small))

-- ---- the two procedures

known-key : (image : List ℕ) (id : ℕ) → has_key image id ≡ true → key_with image id < key_count image
known-key image id e = ltb-true (key_with image id) (key_count image) e

-- a key that becomes active is active for each body that names it
pub activates : (image : List ℕ) → valid_image image ≡ true → (id : ℕ) → has_key image id ≡ true → key_in image pre_active id ≡ true
    → Turns image id active
activates image v id k r = record { passed = v; known = known-key image id k; small = omega arith; still = λ j h serves named. refl }

-- no operational body names one that is deactivated
pub deactivates : (image : List ℕ) → valid_image image ≡ true → (id : ℕ) → has_key image id ≡ true → freed image id ≡ true
    → Turns image id deactivated
unfolding unserved
deactivates image v id k r =
    record {
      passed = v;
      known = known-key image id k;
      small = omega arith;
      still = λ j h serves named.
          let idle : idle_at image id j ≡ true =
          all-at (count_of image) (idle_at image id) (and_right (key_in image active id) (all (count_of image) (idle_at image id)) r) j h
          in
          let busy : idle_at image id j ≡ false = rw (eq-eqb (state_of (body_of image j)) operational serves, eq-eqb (key_id_in image j) id named) refl in
          let z : ◌≡◌ {A = ℕ} 0 1 = cc in
          absurd (omega arith);
    }
