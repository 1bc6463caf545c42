-- Of two images that are equal but for the octets of keys, all is the same that a check reads but the key: layout, contents, the fields of
-- every body, marks, the IDs and states of keys; so the rules, agreement, the entry that a search finds and the stores of a raise are.
-- Assumes nothing.
use mathlib.Core.Path.{◌≡◌, refl, sym, ap, ap₂, ◌∙◌}
use mathlib.Core.Logic.{inl, inr}
use mathlib.Core.Bool.{Bool, true, false, cond, ◌&&◌}
use mathlib.Core.List.{List}
use Prim.Native.Nat.{ℕ, ◌+◌, ◌-◌, ◌≤◌, ◌<◌}
use native.Mathlib.Decide.{ℕ_discrete, dec_lt}
use native.Mathlib.Omega.{arith}
use lib.Dec.{leb}
use lib.ListN.{length, get_or-eq_default}
use Rattle.octets.specs.Lists.{octet, all}
use Rattle.octets.proofs.Alls.{all_same}
use Rattle.octets.proofs.Numbers.{number_at-same}
use Rattle.octets.proofs.Outside.{Apart, Outside, Changed, same_number}
use Rattle.marks.specs.Gray.{code_length, ungray}
use Rattle.bodies.specs.Body.{key_id_of, mark_of, owner_of, body_ok}
use Rattle.bodies.specs.Layout.{key_length, id_length, layout_of, Lawful}
use Rattle.bodies.proofs.Layouts.{lawful}
use Rattle.bodies.proofs.SameFields.{SameFields, same-fields, same-owner, same-rules}
use Rattle.keys.specs.Keys.{active, most_keys, key_place, key_state_place, key_octets_place, key_id_at, key_state_at, key_index, key_in_state, key_ok, key_part_ok}
use Rattle.keys.proofs.SameKeys.{same_index}
use Rattle.image.specs.Image.{version_of, count_of, layout, entry_place, spi_of, position_of, body_at, body_of, mark_at, mark_in}
use Rattle.image.specs.Image.{part_at, key_count, key_in, key_id_in, image_size, laid_out, entry_ok, last_ok, keyed_ok, keys_ok, valid_image}
use Rattle.image.proofs.Places.{length-body, octet-body, behind_contents, before-part, bodies_apart}
use Rattle.image.proofs.ValidImages.{ruled}

-- ---- where keys stand, in the image's key part or in its bodies

abbrev pub keys_of : List ℕ → ℕ
keys_of image = cond (layout image).keys (key_count image) (count_of image)

abbrev pub key_at : List ℕ → ℕ → ℕ
key_at image k = cond (layout image).keys (key_octets_place (part_at image) k) (body_at image k + (layout image).key)

-- a place that holds no octet of a key
abbrev pub Public : List ℕ → ℕ → Type 0
Public image p = (k : ℕ) → k < keys_of image → Outside (key_at image k) key_length p

pub record OnlyKeys (image other : List ℕ) : Type 0 where
  pub long : length other ≡ length image
  pub same : (p : ℕ) → Public image p → octet other p ≡ octet image p

-- the octets of a body that are a key: none, where it holds an ID
abbrev secret : Bool → ℕ
secret keys = cond keys 0 key_length

-- ---- public places

module _ (image : List ℕ) where
  in_part : (p : ℕ) → (layout image).keys ≡ true
      → ((k : ℕ) → k < key_count image → Outside (key_octets_place (part_at image) k) key_length p) → Public image p
  in_part p e h = rw e h

  in_bodies : (p : ℕ) → (layout image).keys ≡ false
      → ((k : ℕ) → k < count_of image → Outside (body_at image k + (layout image).key) key_length p) → Public image p
  in_bodies p e h = rw e h

  -- the contents
  contents_public : (p : ℕ) → p < entry_place (count_of image + (layout image).extra) → Public image p
  unfolding part_at
  contents_public p h = of (layout image).keys refl
    where
      of : (t : Bool) → (layout image).keys ≡ t → Public image p
      of true e = in_part p e (λ k l. inl (omega arith))
      of false e = in_bodies p e (λ k l. inl (omega (arith, behind_contents image k)))

  -- of a body all but the key, if it holds one
  body_public : (i j : ℕ) → i < count_of image → j < (layout image).body → Outside (layout image).key (secret (layout image).keys) j
      → Public image (body_at image i + j)
  body_public i j listed inside out = of (layout image).keys refl out
    where
      moved : Outside (layout image).key key_length j → Outside (body_at image i + (layout image).key) key_length (body_at image i + j)
      moved (inl l) = inl (omega arith)
      moved (inr l) = inr (omega arith)

      one : (k : ℕ) → Apart (body_at image k + (layout image).key) key_length (body_at image i + j) 1
          → Outside (body_at image k + (layout image).key) key_length (body_at image i + j)
      one k (inl l) = inl (omega arith)
      one k (inr l) = inr l

      of : (t : Bool) → (layout image).keys ≡ t → Outside (layout image).key (secret t) j → Public image (body_at image i + j)
      of true e o = in_part (body_at image i + j) e (λ k l. inl (omega (arith, before-part image i listed)))
      of false e o = in_bodies (body_at image i + j) e (λ k l. by-entry k (ℕ_discrete i k))
        where
          by-entry : (k : ℕ) → Dec (i ≡ k) → Outside (body_at image k + (layout image).key) key_length (body_at image i + j)
          by-entry k (yes q) = rw (← q) (moved o)
          by-entry k (no q) =
              let held : (layout image).key + key_length ≤ (layout image).mark = rw e at (lawful (version_of image)).mark in
              let l : Lawful (layout image) = lawful (version_of image) in
              one k (bodies_apart image k i (layout image).key key_length j 1 q (omega arith) (omega arith))

  -- of a key part the count, and of each key its ID and state
  count_public : (layout image).keys ≡ true → Public image (part_at image)
  count_public e = in_part (part_at image) e (λ k l. inl (omega arith))

  key_public : (layout image).keys ≡ true → (k j : ℕ) → j < 3 → Public image (key_place (part_at image) k + j)
  key_public e k j h = in_part (key_place (part_at image) k + j) e (λ d l. by_place d (dec_lt d k))
    where
      by_place : (d : ℕ) → Dec (d < k) → Outside (key_octets_place (part_at image) d) key_length (key_place (part_at image) k + j)
      by_place d (yes l) = inr (omega arith)
      by_place d (no l) = inl (omega arith)

-- ---- what is the same

module _ {image other : List ℕ} (b : OnlyKeys image other) where
  pub same_version : version_of other ≡ version_of image
  same_version = b.same 0 (contents_public image 0 (omega arith))

  pub same_count : count_of other ≡ count_of image
  same_count = b.same 1 (contents_public image 1 (omega arith))

  -- where everything stands
  pub same_keys : (layout other).keys ≡ (layout image).keys
  same_keys = ap (λ (v : ℕ). (layout_of v).keys) same_version

  same_place : (i : ℕ) → body_at other i ≡ body_at image i
  unfolding body_at
  same_place i = cc (same_version, same_count)

  pub same-mark-place : (i : ℕ) → mark_at other i ≡ mark_at image i
  unfolding mark_at
  same-mark-place i = ap₂ (λ (p v : ℕ). p + (layout_of v).mark) (same_place i) same_version

  same-part : part_at other ≡ part_at image
  unfolding part_at
  same-part = cc (same_version, same_count)

  same-key-count : key_count other ≡ key_count image
  unfolding key_count
  same-key-count = of (layout image).keys refl
    where
      of : (t : Bool) → (layout image).keys ≡ t
          → cond (layout other).keys (octet other (part_at other)) 0 ≡ cond (layout image).keys (octet image (part_at image)) 0
      of true e = rw (same_keys, e, same-part) (b.same (part_at image) (count_public image e))
      of false e = rw (same_keys, e)

  -- the contents
  same_listed : (p n : ℕ) → p + n ≤ entry_place (count_of image + (layout image).extra) → (i : ℕ) → i < n
      → octet other (p + i) ≡ octet image (p + i)
  same_listed p n h i l = b.same (p + i) (contents_public image (p + i) (omega arith))

  pub same-spi : (i : ℕ) → i < count_of image + (layout image).extra → spi_of other i ≡ spi_of image i
  same-spi i h = number_at-same (entry_place i) 2 other image (same_listed (entry_place i) 2 (omega arith))

  same-position : (i : ℕ) → i < count_of image + (layout image).extra → position_of other i ≡ position_of image i
  same-position i h = number_at-same (entry_place i + 2) 2 other image (same_listed (entry_place i + 2) 2 (omega arith))

  -- the bodies
  same_body : (i : ℕ) → i < count_of image
      → Changed (body_of image i) (layout image).key (secret (layout image).keys) (body_of other i)
  same_body i listed = record { long = long; outside = λ p out. by_place p out (dec_lt p (layout image).body) }
    where
      long : length (body_of other i) ≡ length (body_of image i)
      long = length-body other i ∙ ap (λ (v : ℕ). (layout_of v).body) same_version ∙ sym (length-body image i)

      by_place : (p : ℕ) → Outside (layout image).key (secret (layout image).keys) p → Dec (p < (layout image).body)
          → octet (body_of other i) p ≡ octet (body_of image i) p
      by_place p out (yes h) =
          octet-body other i p (rw (← same_version) at h)
          ∙ ap (λ (a : ℕ). octet other (a + p)) (same_place i)
          ∙ b.same (body_at image i + p) (body_public image i p listed h out)
          ∙ sym (octet-body image i p h)
      by_place p out (no h) =
          get_or-eq_default (body_of other i) 0 (omega (arith, long, length-body image i))
          ∙ sym (get_or-eq_default (body_of image i) 0 (omega (arith, length-body image i)))

  pub fields-same : (i : ℕ) → i < count_of image → SameFields (body_of image i) (body_of other i)
  fields-same i listed = same-fields (lawful (version_of image)).key (same_body i listed)

  -- the mark stands behind what is a key
  behind-key : (t : Bool) → (layout image).keys ≡ t → (layout image).key + secret t ≤ (layout image).mark
  behind-key true e = omega (arith, (lawful (version_of image)).mark)
  behind-key false e = rw e at (lawful (version_of image)).mark

  mark_read : (i : ℕ) → i < count_of image → mark_of (version_of image) (body_of other i) ≡ mark_of (version_of image) (body_of image i)
  mark_read i listed =
      ap ungray (same_number (same_body i listed) (layout image).mark code_length (inr (behind-key (layout image).keys refl)))

  pub same-mark : (i : ℕ) → i < count_of image → mark_in other i ≡ mark_in image i
  unfolding mark_in
  same-mark i listed = ap (λ (v : ℕ). mark_of v (body_of other i)) same_version ∙ mark_read i listed

  -- and so does the owner
  owner_read : (i : ℕ) → i < count_of image → owner_of (version_of image) (body_of other i) ≡ owner_of (version_of image) (body_of image i)
  owner_read i listed = same-owner (version_of image) (omega (arith, behind-key (layout image).keys refl)) (same_body i listed)

  pub same_owned : (i : ℕ) → i < count_of image → owner_of (version_of other) (body_of other i) ≡ owner_of (version_of image) (body_of image i)
  same_owned i listed = ap (λ (v : ℕ). owner_of v (body_of other i)) same_version ∙ owner_read i listed

  -- ---- the key part

  module _ (has : (layout image).keys ≡ true) where
    id_read : (k : ℕ) → key_id_at other (part_at image) k ≡ key_id_at image (part_at image) k
    id_read k =
        number_at-same (key_place (part_at image) k) id_length other image
        (λ j h. b.same (key_place (part_at image) k + j) (key_public image has k j (omega arith)))

    state_read : (k : ℕ) → key_state_at other (part_at image) k ≡ key_state_at image (part_at image) k
    state_read k = b.same (key_state_place (part_at image) k) (key_public image has k 2 (omega arith))

    same_in : (state id : ℕ) → key_in other state id ≡ key_in image state id
    unfolding key_in_state
    same_in state id =
        let k : ℕ = key_index image (part_at image) (key_count image) id in
        rw (same-part, same-key-count, same_index image other (part_at image) id_read (key_count image) id, state_read k)

    same-named : (i : ℕ) → i < count_of image → key_id_in other i ≡ key_id_in image i
    same-named i listed =
        ap (λ (v : ℕ). key_id_of v (body_of other i)) same_version
        ∙ same_number (same_body i listed) (layout image).key id_length (rw has (inr (omega arith)))

    same-key-rules : key_part_ok other (part_at other) (key_count other) ≡ key_part_ok image (part_at image) (key_count image)
    unfolding key_part_ok key_ok
    same-key-rules =
        rw (same-part, same-key-count)
        (ap (λ (ok : Bool). leb (key_count image) most_keys && ok)
        (all_same (key_count image) _ _ (λ k h. cc (state_read k, id_read k, id_read (k - 1)))))

    same_last : last_ok other ≡ last_ok image
    same_last =
        let extra : 1 ≤ (layout image).extra = (lawful (version_of image)).entry has in
        cc (same_count, same-part, same-spi (count_of image) (omega arith), same-position (count_of image) (omega arith))

    same-keyed : (i : ℕ) → i < count_of image → keyed_ok other i ≡ keyed_ok image i
    same-keyed i listed = rw ((fields-same i listed).state, same-named i listed, same_in active (key_id_in image i))

  -- ---- the rules

  pub same-laid : laid_out other ≡ laid_out image
  unfolding laid_out image_size
  same-laid = let l : length other ≡ length image = b.long in cc (same_version, same_count, same-part, same-key-count)

  same-entry : (i : ℕ) → i < count_of image → entry_ok other i ≡ entry_ok image i
  unfolding entry_ok
  same-entry i h = cc (same-spi i (omega arith), same-spi (i - 1) (omega arith), same-position i (omega arith), same_place i)

  same_ruled : (i : ℕ) → i < count_of image → ruled other i ≡ ruled image i
  same_ruled i listed =
      ap₂ ◌&&◌ (same-entry i listed)
      (ap (λ (v : ℕ). body_ok v (body_of other i)) same_version
      ∙ same-rules (version_of image) (body_of image i) (body_of other i) (fields-same i listed) (cc (mark_read i listed)) (owner_read i listed))

  same-keys_ok : keys_ok other ≡ keys_ok image
  unfolding keys_ok
  same-keys_ok = of (layout image).keys refl
    where
      of : (t : Bool) → (layout image).keys ≡ t → keys_ok other ≡ keys_ok image
      of false e = rw (same_keys, e)
      of true e =
          rw (same_keys, e)
          (ap₂ ◌&&◌ (ap₂ ◌&&◌ (same_last e) (same-key-rules e))
          (ap (λ (n : ℕ). all n (keyed_ok other)) same_count ∙ all_same (count_of image) (keyed_ok other) (keyed_ok image) (same-keyed e)))

  pub same-valid : valid_image other ≡ valid_image image
  unfolding valid_image
  same-valid =
      ap₂ ◌&&◌
      (ap₂ ◌&&◌ same-laid (ap (λ (n : ℕ). all n (ruled other)) same_count ∙ all_same (count_of image) (ruled other) (ruled image) same_ruled))
      same-keys_ok
