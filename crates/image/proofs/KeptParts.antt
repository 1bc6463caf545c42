-- Document 01, 'What comes back': of two images that differ at most in a few octets of one body, the rules on their layout, the contents, the
-- key part, the other bodies and every other field of that body are the same; and if these octets are a mark that is allowed, the image stays valid.
-- Assumes nothing.
use mathlib.Core.Path.{◌≡◌, refl, sym, ap, ap₂, ◌∙◌}
use mathlib.Core.Logic.{inl, inr, ◌≢◌}
use mathlib.Core.Bool.{Bool, true, false, ◌&&◌}
use mathlib.Core.List.{List}
use Prim.Native.Nat.{ℕ, ◌+◌, ◌-◌, ◌^◌, ◌≤◌, ◌<◌}
use native.Mathlib.Decide.{ℕ_discrete, dec_lt}
use native.Mathlib.Nat.{add-zero}
use native.Mathlib.Omega.{arith}
use borrow.Author.Tests.{lt-ltb}
use lib.Dec.{eqb}
use lib.ListN.{length, get_or-eq_default}
use Rattle.octets.specs.Lists.{octet, part, all}
use Rattle.octets.specs.Numbers.{number_at}
use Rattle.octets.proofs.Alls.{all_same}
use Rattle.octets.proofs.Outside.{Apart, Outside, Changed, same_number, same-part}
use Rattle.marks.specs.Gray.{code_length}
use Rattle.bodies.specs.Body.{body_in, key_id_of, mark_of, owner_of, mark_ok, body_ok}
use Rattle.bodies.specs.Layout.{key_length, id_length, owner_place, layout_of}
use Rattle.bodies.proofs.Layouts.{lawful, fields-inside, id_before}
use Rattle.bodies.proofs.SameFields.{SameFields, same-fields, same-owner, same-rules}
use Rattle.image.specs.Image.{version_of, count_of, layout, entry_place, spi_of, position_of, body_at, body_of, mark_at, mark_in}
use Rattle.image.specs.Image.{part_at, key_count, key_in, key_id_in, key_of, image_size, laid_out, entry_ok, part_spi, last_ok, keyed_ok, keys_ok, valid_image}
use Rattle.keys.specs.Keys.{active, key_under, key_part_ok}
use Rattle.keys.proofs.SameKeys.{same_in_state, same_under, same_keys}
use Rattle.image.proofs.ValidImages.{ruled, valid, mark-small}
use Rattle.image.proofs.Places.{length-body, octet-body, behind_contents, before-part, mark-behind-body, bodies_apart, key-body, key-part}

-- ---- two images that differ at most in n octets of the body of an entry

pub record Within (image : List ℕ) (i at n : ℕ) (after : List ℕ) : Type 0 where
  pub listed : i < count_of image
  pub inside : at + n ≤ (layout image).body
  pub only : Changed image (body_at image i + at) n after

module _ {image : List ℕ} {i at n : ℕ} {after : List ℕ} (w : Within image i at n after) where
  -- the contents end before the body
  before : (p k : ℕ) → p + k ≤ entry_place (count_of image) → Apart (body_at image i + at) n p k
  before p k h = inl (omega (arith, behind_contents image i))

  -- version, count and layout
  pub kept-version : version_of after ≡ version_of image
  kept-version = w.only.outside 0 (inl (omega (arith, behind_contents image i)))

  pub kept-count : count_of after ≡ count_of image
  kept-count = w.only.outside 1 (inl (omega (arith, behind_contents image i)))

  -- the contents
  pub kept-spi : (j : ℕ) → j < count_of image → spi_of after j ≡ spi_of image j
  kept-spi j h = same_number w.only (entry_place j) 2 (before (entry_place j) 2 (omega arith))

  pub kept-position : (j : ℕ) → j < count_of image → position_of after j ≡ position_of image j
  kept-position j h = same_number w.only (entry_place j + 2) 2 (before (entry_place j + 2) 2 (omega arith))

  -- where bodies, marks and keys stand
  pub kept-place : (j : ℕ) → body_at after j ≡ body_at image j
  unfolding body_at
  kept-place j = cc (kept-version, kept-count)

  pub kept-mark-place : (j : ℕ) → mark_at after j ≡ mark_at image j
  unfolding mark_at
  kept-mark-place j = ap₂ (λ (p v : ℕ). p + (layout_of v).mark) (kept-place j) kept-version

  -- the key part, which stands behind the bodies
  pub kept-part : part_at after ≡ part_at image
  unfolding part_at
  kept-part = cc (kept-version, kept-count)

  pub kept-behind : (p : ℕ) → part_at image ≤ p → octet after p ≡ octet image p
  kept-behind p h = w.only.outside p (inr (omega (arith, before-part image i w.listed, w.inside)))

  pub kept-keys : key_count after ≡ key_count image
  unfolding key_count
  kept-keys = cc (kept-version, kept-part, kept-behind (part_at image) (omega arith))

  pub kept_in : (state id : ℕ) → key_in after state id ≡ key_in image state id
  kept_in state id = rw (kept-part, kept-keys) (same_in_state image after (part_at image) kept-behind (key_count image) state id)

  pub kept_under : (id : ℕ) → key_under after (part_at after) (key_count after) id ≡ key_under image (part_at image) (key_count image) id
  kept_under id = rw (kept-part, kept-keys) (same_under image after (part_at image) kept-behind (key_count image) id)

  kept-key-rules : key_part_ok after (part_at after) (key_count after) ≡ key_part_ok image (part_at image) (key_count image)
  kept-key-rules = rw (kept-part, kept-keys) (same_keys image after (part_at image) kept-behind (key_count image))

  -- the size
  kept-size : image_size after ≡ image_size image
  unfolding image_size
  kept-size = cc (kept-version, kept-part, kept-keys)

  pub kept-laid : laid_out after ≡ laid_out image
  unfolding laid_out
  kept-laid = let l : length after ≡ length image = w.only.long in cc (kept-version, kept-count, kept-size)

  -- the entry outside the count
  kept_last : (layout image).keys ≡ true → last_ok after ≡ last_ok image
  kept_last has =
      let extra : 1 ≤ (layout image).extra = (lawful (version_of image)).entry has in
      let behind : entry_place (count_of image) + 4 ≤ body_at image i = omega (arith, behind_contents image i) in
      let spi : number_at (entry_place (count_of image)) 2 after ≡ number_at (entry_place (count_of image)) 2 image =
      same_number w.only (entry_place (count_of image)) 2 (inl (omega arith))
      in
      let position : number_at (entry_place (count_of image) + 2) 2 after ≡ number_at (entry_place (count_of image) + 2) 2 image =
      same_number w.only (entry_place (count_of image) + 2) 2 (inl (omega arith))
      in
      rw (kept-count, kept-part) (ap₂ (λ (s p : ℕ). eqb s part_spi && eqb p (part_at image)) spi position)

  -- the rules of the keys, if each body that serves still names one that is active
  pub kept-keyed : ((j : ℕ) → j < count_of image → (layout image).keys ≡ true → keyed_ok after j ≡ keyed_ok image j) → keys_ok after ≡ keys_ok image
  unfolding keys_ok
  kept-keyed same = of (layout image).keys refl
    where
      has : (layout after).keys ≡ (layout image).keys
      has = ap (λ (v : ℕ). (layout_of v).keys) kept-version

      of : (t : Bool) → (layout image).keys ≡ t → keys_ok after ≡ keys_ok image
      of false e = rw (has, e)
      of true e =
          rw (has, e)
          (ap₂ ◌&&◌ (ap₂ ◌&&◌ (kept_last e) kept-key-rules)
          (ap (λ (k : ℕ). all k (keyed_ok after)) kept-count ∙ all_same (count_of image) (keyed_ok after) (keyed_ok image) (λ j h. same j h e)))

  -- the rules on the contents
  pub kept_entry : (j : ℕ) → j < count_of image → entry_ok after j ≡ entry_ok image j
  unfolding entry_ok
  kept_entry j h = cc (kept-spi j h, kept-spi (j - 1) (omega arith), kept-position j h, kept-place j)

  body_read : (j : ℕ) → body_of after j ≡ part (body_at image j) (layout image).body after
  unfolding body_of body_in
  body_read j = ap₂ (λ (p v : ℕ). part p (layout_of v).body after) (kept-place j) kept-version

  -- the other bodies
  pub kept-body : (j : ℕ) → j ≢ i → body_of after j ≡ body_of image j
  unfolding body_of body_in
  kept-body j other =
      body_read j
      ∙ same-part w.only (body_at image j) (layout image).body
      (rw (add-zero (body_at image j)) at (bodies_apart image i j at n 0 (layout image).body other w.inside (omega arith)))

  -- of each body all octets but these
  long-body : (j : ℕ) → length (body_of after j) ≡ length (body_of image j)
  long-body j = length-body after j ∙ ap (λ (v : ℕ). (layout_of v).body) kept-version ∙ sym (length-body image j)

  same-octet : (p : ℕ) → Outside at n p → octet (body_of after i) p ≡ octet (body_of image i) p
  same-octet p out = by_place (dec_lt p (layout image).body)
    where
      moved : Outside at n p → Outside (body_at image i + at) n (body_at image i + p)
      moved (inl l) = inl (omega arith)
      moved (inr l) = inr (omega arith)

      by_place : Dec (p < (layout image).body) → octet (body_of after i) p ≡ octet (body_of image i) p
      by_place (yes h) =
          octet-body after i p (rw (← kept-version) at h)
          ∙ ap (λ (b : ℕ). octet after (b + p)) (kept-place i)
          ∙ w.only.outside (body_at image i + p) (moved out)
          ∙ sym (octet-body image i p h)
      by_place (no h) =
          get_or-eq_default (body_of after i) 0 (omega (arith, long-body i, length-body image i))
          ∙ sym (get_or-eq_default (body_of image i) 0 (omega (arith, length-body image i)))

  pub kept-octets : (j : ℕ) → Changed (body_of image j) at n (body_of after j)
  kept-octets j = by-entry (ℕ_discrete j i)
    where
      by-entry : Dec (j ≡ i) → Changed (body_of image j) at n (body_of after j)
      by-entry (yes e) = rw e (record { long = long-body i; outside = same-octet })
      by-entry (no other) =
          record { long = long-body j; outside = λ p out. ap (λ (b : List ℕ). octet b p) (kept-body j other) }

  -- the owners, if the octets stand before them
  pub kept-owner : at + n ≤ owner_place (layout image) → (j : ℕ) → owner_of (version_of image) (body_of after j) ≡ owner_of (version_of image) (body_of image j)
  kept-owner h j = same-owner (version_of image) h (kept-octets j)

  -- the other marks
  pub kept-mark : (j : ℕ) → j ≢ i → mark_in after j ≡ mark_in image j
  unfolding mark_in
  kept-mark j other = ap₂ (λ (v : ℕ) (b : List ℕ). mark_of v b) kept-version (kept-body j other)

-- ---- a valid image whose one mark was replaced by a mark that is allowed is valid again, and its keys are the same

module _ (image : List ℕ) (i : ℕ) (after : List ℕ) (listed : i < count_of image) (only : Changed image (mark_at image i) code_length after) where
  pub mark_within : Within image i (layout image).mark code_length after
  mark_within = record { listed = listed; inside = (lawful (version_of image)).inside; only = rw (← mark-behind-body image i) only }

  pub kept-fields : (j : ℕ) → SameFields (body_of image j) (body_of after j)
  kept-fields j = same-fields (fields-inside (version_of image)).0 (kept-octets mark_within j)

  -- a body holds its key, or the ID of it, before the mark
  pub kept-key_id : (j : ℕ) → key_id_in after j ≡ key_id_in image j
  kept-key_id j =
      ap (λ (v : ℕ). key_id_of v (body_of after j)) (kept-version mark_within)
      ∙ same_number (kept-octets mark_within j) (layout image).key id_length (inl (id_before (version_of image)))

  pub kept-key : (j : ℕ) → key_of after j ≡ key_of image j
  kept-key j = of (layout image).keys refl
    where
      has : (layout after).keys ≡ (layout image).keys
      has = ap (λ (v : ℕ). (layout_of v).keys) (kept-version mark_within)

      of : (t : Bool) → (layout image).keys ≡ t → key_of after j ≡ key_of image j
      of true e =
          key-part after j (has ∙ e)
          ∙ kept_under mark_within (key_id_in after j)
          ∙ ap (key_under image (part_at image) (key_count image)) (kept-key_id j)
          ∙ sym (key-part image j e)
      of false e =
          let held : (layout image).key + key_length ≤ (layout image).mark = rw e at (lawful (version_of image)).mark in
          key-body after j (has ∙ e)
          ∙ ap (λ (v : ℕ). part (layout_of v).key key_length (body_of after j)) (kept-version mark_within)
          ∙ same-part (kept-octets mark_within j) (layout image).key key_length (inl held)
          ∙ sym (key-body image j e)

  kept_serving : (j : ℕ) → keyed_ok after j ≡ keyed_ok image j
  kept_serving j = rw ((kept-fields j).state, kept-key_id j, kept_in mark_within active (key_id_in image j))

  module _ (passed : valid_image image ≡ true) (allowed : mark_in after i < 2 ^ 26) where
    version-same : version_of after ≡ version_of image
    version-same = kept-version mark_within

    allowed_mark : (j : ℕ) → j < count_of image → mark_ok (version_of image) (body_of after j) ≡ mark_ok (version_of image) (body_of image j)
    unfolding mark_in
    allowed_mark j h = by-entry (ℕ_discrete j i)
      where
        by-entry : Dec (j ≡ i) → mark_ok (version_of image) (body_of after j) ≡ mark_ok (version_of image) (body_of image j)
        by-entry (yes e) =
            ap (λ (k : ℕ). mark_ok (version_of image) (body_of after k)) e
            ∙ ap (λ (v : ℕ). mark_ok v (body_of after i)) (sym version-same)
            ∙ lt-ltb (mark_in after i) (2 ^ 26) allowed
            ∙ sym (lt-ltb (mark_in image j) (2 ^ 26) (mark-small image (valid image passed) j h))
        by-entry (no other) = ap (mark_ok (version_of image)) (kept-body mark_within j other)

    allowed_rules : (j : ℕ) → j < count_of image → ruled after j ≡ ruled image j
    allowed_rules j h =
        ap₂ ◌&&◌ (kept_entry mark_within j h)
        (ap (λ (v : ℕ). body_ok v (body_of after j)) version-same
        ∙ same-rules (version_of image) (body_of image j) (body_of after j) (kept-fields j) (allowed_mark j h)
        (kept-owner mark_within (omega arith) j))

    pub kept-valid : valid_image after ≡ true
    unfolding valid_image
    kept-valid =
        ap₂ ◌&&◌
        (ap₂ ◌&&◌ (kept-laid mark_within)
        (ap (λ (k : ℕ). all k (ruled after)) (kept-count mark_within) ∙ all_same (count_of image) (ruled after) (ruled image) allowed_rules))
        (kept-keyed mark_within (λ j h has. kept_serving j))
        ∙ passed
