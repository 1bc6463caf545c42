-- The new image, read by the definitions that a load uses: its count, and of entry j the SPI, the position and the body. So it is valid.
-- Assumes nothing.
use mathlib.Core.Path.{◌≡◌, refl, sym, ap, ap₂, ◌∙◌}
use mathlib.Core.Bool.{true, ◌&&◌}
use mathlib.Core.List.{List, ◌∷◌, ◌++◌}
use Prim.Native.Nat.{ℕ, suc, ◌+◌, ◌-◌, ◌*◌, ◌<◌}
use native.Mathlib.Decide.{ℕ_discrete}
use native.Mathlib.Nat.{add_assoc, add-zero}
use native.Mathlib.Omega.{arith}
use borrow.Author.Tests.{le-leb, lt-ltb, eq-eqb, ne_eqb}
use lib.Dec.{ltb}
use lib.ListN.{length, drop, length-append, get_or-append}
use lib.Seq.{get_or-append-add, get_or-drop}
use Rattle.octets.specs.Lists.{octet, part, Octets}
use Rattle.octets.specs.Numbers.{number, number_at, bytes}
use Rattle.octets.proofs.Alls.{and_right, all_every}
use Rattle.octets.proofs.Bounds.{octets_cons, octets-append, octets-tab}
use Rattle.octets.proofs.Numbers.{number_same, number-bytes, length-bytes, octets-bytes}
use Rattle.octets.proofs.Parts.{octet-part}
use Rattle.octets.proofs.Rules.{tab_ext}
use Rattle.bodies.specs.Body.{body_in, body_ok}
use Rattle.bodies.specs.Layout.{layout_of}
use Rattle.image.specs.Image.{version_of, count_of, entry_place, spi_of, position_of, spi_before, layout, body_place, body_at, body_of}
use Rattle.image.specs.Image.{part_at, image_size, laid_out, entry_ok, keys_ok, valid_image}
use Rattle.writing.specs.Text.{end_to_end}
use Rattle.writing.proofs.Ends.{end_long, end_octet, end_octets}
use Rattle.salvage_entries.specs.Kept.{body_there, keepable, kept_among, is_kept, old_index}
use Rattle.salvage_entries.proofs.KeptLaws.{in_order, Good, good}
use Rattle.salvage_entries.proofs.Ranks.{old_kept, old_rises}
use Rattle.salvage_image.specs.Salvage.{new_count, new_place, new_entry, new_body, new_image}
use Rattle.salvage_image.proofs.Parts.{long-entry, long-body}
use Rattle.salvage_image.proofs.Sizes.{Taken, few}

-- a kept entry is as it is asked of it
pub kept_good : (x : List ℕ) (i : ℕ) → is_kept x i ≡ true → Good x i
kept_good x i k = good x (kept_among x i) i (and_right (ltb i (count_of x)) (keepable x (kept_among x i) i) (sym (in_order x i) ∙ k))

octets-part : (at n : ℕ) (s : List ℕ) → Octets s → Octets (part at n s)
unfolding part
octets-part at n s hs = octets-tab n _ (λ i h. hs (at + i))

-- the number that k octets at a place make, if they are those of a list
number_at-is : (at k : ℕ) (s t : List ℕ) → ((r : ℕ) → r < k → octet s (at + r) ≡ octet t r) → number_at at k s ≡ number k t
number_at-is at k s t h = number_same k (drop at s) t (λ r l. get_or-drop at s r 0 ∙ h r l)

module _ (x : List ℕ) (ok : Taken x) where
  good_at : (j : ℕ) → j < new_count x → Good x (old_index x j)
  good_at j h = kept_good x (old_index x j) (old_kept x j h)

  body-long : (j : ℕ) → length (new_body x j) ≡ 52
  body-long j = long-body x j ∙ ok.body

  long_contents : length (end_to_end (new_count x) (new_entry x)) ≡ new_count x * 4
  long_contents = end_long 4 (new_entry x) (new_count x) (λ j l. long-entry x j)

  long_bodies : length (end_to_end (new_count x) (new_body x)) ≡ new_count x * 52
  long_bodies = end_long 52 (new_body x) (new_count x) (λ j l. body-long j)

  pub new_place_lem : (j : ℕ) → new_place x j ≡ 2 + 4 * new_count x + 52 * j
  new_place_lem j = rw (ok.body, ok.extra) (omega arith)

  -- the octets of entry j and of body j
  octet-entry : (j r : ℕ) → j < new_count x → r < 4 → octet (new_image x) (entry_place j + r) ≡ octet (new_entry x j) r
  unfolding new_image
  octet-entry j r h l =
      let e : entry_place j + r ≡ suc (suc (j * 4 + r)) = omega arith in
      ap (octet (new_image x)) e
      ∙ get_or-append (end_to_end (new_count x) (new_entry x)) (end_to_end (new_count x) (new_body x)) 0 (j * 4 + r) (omega (arith, long_contents))
      ∙ end_octet 4 (new_entry x) (new_count x) (λ i m. long-entry x i) j r h l

  octet-body : (j r : ℕ) → j < new_count x → r < 52 → octet (new_image x) (new_place x j + r) ≡ octet (new_body x j) r
  unfolding new_image
  octet-body j r h l =
      let e : new_place x j + r ≡ suc (suc (length (end_to_end (new_count x) (new_entry x)) + (j * 52 + r))) =
      rw (new_place_lem j) (omega (arith, long_contents))
      in
      ap (octet (new_image x)) e
      ∙ get_or-append-add (end_to_end (new_count x) (new_entry x)) (end_to_end (new_count x) (new_body x)) (j * 52 + r) 0
      ∙ end_octet 52 (new_body x) (new_count x) (λ i m. body-long i) j r h l

  -- ---- as a load reads it

  pub new_version : version_of (new_image x) ≡ version_of x
  unfolding new_image
  new_version = refl

  pub new_count_lem : count_of (new_image x) ≡ new_count x
  unfolding new_image
  new_count_lem = refl

  new_size : length (new_image x) ≡ image_size (new_image x)
  unfolding new_image image_size part_at
  new_size =
      let e : length (end_to_end (new_count x) (new_entry x) ++ end_to_end (new_count x) (new_body x)) ≡ new_count x * 4 + new_count x * 52 =
      length-append (end_to_end (new_count x) (new_entry x)) (end_to_end (new_count x) (new_body x)) ∙ ap₂ ◌+◌ long_contents long_bodies
      in
      sym (rw ok.keys (add-zero (new_place x (new_count x)) ∙ new_place_lem (new_count x) ∙ omega (arith, e)))

  pub new_spi : (j : ℕ) → j < new_count x → spi_of (new_image x) j ≡ spi_of x (old_index x j)
  unfolding new_entry
  new_spi j h =
      let s : ℕ = spi_of x (old_index x j) in
      number_at-is (entry_place j) 2 (new_image x) (bytes 2 s)
      (λ r l.
      octet-entry j r h (omega arith)
      ∙ get_or-append (bytes 2 s) (bytes 2 (new_place x j)) 0 r (omega (arith, length-bytes 2 s)))
      ∙ number-bytes 2 s (omega (arith, (good_at j h).spi.1))

  pub new_position : (j : ℕ) → j < new_count x → position_of (new_image x) j ≡ new_place x j
  unfolding new_entry
  new_position j h =
      let s : ℕ = spi_of x (old_index x j) in
      number_at-is (entry_place j + 2) 2 (new_image x) (bytes 2 (new_place x j))
      (λ r l.
      ap (octet (new_image x)) (add_assoc (entry_place j) 2 r)
      ∙ octet-entry j (2 + r) h (omega arith)
      ∙ ap (λ (n : ℕ). octet (new_entry x j) (n + r)) (sym (length-bytes 2 s))
      ∙ get_or-append-add (bytes 2 s) (bytes 2 (new_place x j)) r 0)
      ∙ number-bytes 2 (new_place x j) (rw (new_place_lem j) (omega (arith, few x ok)))

  body-at : (j : ℕ) → body_at (new_image x) j ≡ new_place x j
  unfolding body_at
  body-at j = ap₂ (λ (v k : ℕ). body_place (layout_of v) k j) new_version new_count_lem

  pub new_body_lem : (j : ℕ) → j < new_count x → body_of (new_image x) j ≡ body_there x (old_index x j)
  unfolding body_of body_in part new_body
  new_body_lem j h =
      rw (new_version, body-at j)
      (tab_ext (layout x).body
      (λ r l.
      octet-body j r h (omega (arith, ok.body))
      ∙ octet-part (position_of x (old_index x j)) (layout x).body x r l))

  -- ---- so it is valid

  new_laid : laid_out (new_image x) ≡ true
  unfolding laid_out
  new_laid =
      rw (
        new_version,
        ok.version,
        new_count_lem,
        le-leb (new_count x) 32 (few x ok),
        eq-eqb (length (new_image x)) (image_size (new_image x)) new_size,
      )

  new_before : (j : ℕ) → j < new_count x → spi_before (new_image x) j < spi_of x (old_index x j)
  new_before j h = by_place (ℕ_discrete j 0)
    where
      by_place : Dec (j ≡ 0) → spi_before (new_image x) j < spi_of x (old_index x j)
      by_place (yes e) = simp (eq-eqb j 0 e) (omega (arith, (good_at j h).spi.0))
      by_place (no g) = simp (ne_eqb j 0 g, new_spi (j - 1) (omega arith)) (old_rises x (j - 1) j (omega arith) h)

  new_entry_lem : (j : ℕ) → j < new_count x → entry_ok (new_image x) j ≡ true
  unfolding entry_ok
  new_entry_lem j h =
      let g : Good x (old_index x j) = good_at j h in
      let s : ℕ = spi_of x (old_index x j) in
      rw (
        new_spi j h,
        new_position j h,
        body-at j,
        le-leb 1 s g.spi.0,
        le-leb s 65534 g.spi.1,
        lt-ltb (spi_before (new_image x) j) s (new_before j h),
        eq-eqb (new_place x j) (new_place x j) refl,
      )

  new_rules : (j : ℕ) → j < new_count x → (entry_ok (new_image x) j && body_ok (version_of (new_image x)) (body_of (new_image x) j)) ≡ true
  new_rules j h = ap₂ ◌&&◌ (new_entry_lem j h) (rw (new_body_lem j h, new_version) (good_at j h).body)

  -- there is no key part
  new_keys : keys_ok (new_image x) ≡ true
  unfolding keys_ok
  new_keys = rw (ap (λ (v : ℕ). (layout_of v).keys) new_version ∙ ok.keys) refl

  pub new_valid : valid_image (new_image x) ≡ true
  unfolding valid_image
  new_valid =
      ap₂ ◌&&◌
      (ap₂ ◌&&◌ new_laid
      (all_every (count_of (new_image x)) (λ j. entry_ok (new_image x) j && body_ok (version_of (new_image x)) (body_of (new_image x) j)) (λ j h. new_rules j (rw new_count_lem at h))))
      new_keys

  -- and its numbers are octets
  pub new_octets : Octets x → Octets (new_image x)
  unfolding new_image new_entry new_body body_in
  new_octets octets =
      let contents : List ℕ = end_to_end (new_count x) (new_entry x) in
      let bodies : List ℕ = end_to_end (new_count x) (new_body x) in
      let entry : (j : ℕ) → Octets (new_entry x j) =
      λ j.
      octets-append (bytes 2 (spi_of x (old_index x j))) (bytes 2 (new_place x j)) (octets-bytes 2 (spi_of x (old_index x j)))
      (octets-bytes 2 (new_place x j))
      in
      octets_cons (version_of x) (new_count x ∷ (contents ++ bodies)) (octets 0)
      (octets_cons (new_count x) (contents ++ bodies) (omega (arith, few x ok))
      (octets-append contents bodies (end_octets (new_count x) (new_entry x) entry)
      (end_octets (new_count x) (new_body x) (λ j. octets-part (position_of x (old_index x j)) (layout x).body x octets))))
