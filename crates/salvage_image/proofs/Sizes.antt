-- What is known of an input that is not refused, and how long the image that is made of it can be.
-- Assumes nothing.
use mathlib.Core.Path.{◌≡◌, refl}
use mathlib.Core.Bool.{Bool, true, false, ◌||◌}
use mathlib.Core.List.{List, []}
use Prim.Native.Nat.{ℕ, zero, suc, ◌≤◌}
use native.Mathlib.Omega.{arith}
use borrow.Author.Tests.{leb-true, ne_eqb}
use lib.Dec.{eqb}
use lib.ListN.{length}
use Rattle.octets.proofs.Alls.{and_left, and_right}
use Rattle.bodies.specs.Layout.{layout_of, version_ok}
use Rattle.image.specs.Image.{version_of, count_of, layout, most_entries}
use Rattle.salvage_entries.specs.Kept.{kept_entries}
use Rattle.salvage_entries.proofs.KeptLaws.{kept-few}
use Rattle.salvage_image.specs.KeptOf.{KeptOf}
use Rattle.salvage_image.specs.Salvage.{most_octets, salvageable, new_count, new_entry, new_body, new_image}
use Rattle.salvage_image.specs.Salvage.{salvaged_image}
use Rattle.writing.proofs.Ends.{end_short}
use Rattle.salvage_image.proofs.Parts.{image-long, long-entry, long-body}

-- ---- what is not refused

pub record Taken (x : List ℕ) : Type 0 where
  pub long : (2 ≤ length x) × (length x ≤ most_octets)
  pub version : version_ok (version_of x) ≡ true
  pub body : (layout x).body ≡ 52
  pub extra : (layout x).extra ≡ 0
  pub keys : (layout x).keys ≡ false
  pub count : count_of x ≤ most_entries

-- both versions have bodies of one size, behind contents of as many entries as are counted, and no key part
one-or-two : (v : ℕ) → (eqb v 1 || eqb v 2) ≡ true → (version_ok v ≡ true) × ((layout_of v).body ≡ 52) × ((layout_of v).extra ≡ 0) × ((layout_of v).keys ≡ false)
unfolding layout_of
one-or-two zero e = let z : ◌≡◌ {A = ℕ} 0 1 = cc in absurd (omega arith)
one-or-two (suc zero) e = (refl, refl, refl, refl)
one-or-two (suc (suc zero)) e = (refl, refl, refl, refl)
one-or-two (suc (suc (suc n))) e =
    let other : ℕ = suc (suc (suc n)) in
    let none : (eqb other 1 || eqb other 2) ≡ false = rw (ne_eqb other 1 (omega arith), ne_eqb other 2 (omega arith)) in
    let z : ◌≡◌ {A = ℕ} 0 1 = cc in
    absurd (omega arith)

pub taken : (x : List ℕ) → salvageable x ≡ true → Taken x
unfolding salvageable
taken x e =
    let v = one-or-two (version_of x) (search (and_left, and_right) depth 9) in
    record {
      long = (leb-true 2 (length x) (search (and_left, and_right) depth 9), leb-true (length x) most_octets (search (and_left, and_right) depth 9));
      version = v.0;
      body = v.1;
      extra = v.2;
      keys = v.3;
      count = leb-true (count_of x) most_entries (search (and_left, and_right) depth 9);
    }

pub kept_of : (x kept : List ℕ) → salvageable x ≡ true → kept ≡ kept_entries x → KeptOf x kept
kept_of x kept e is =
    let count = (taken x e).count in
    record { is = is; few = rw is (omega (arith, kept-few x (count_of x))); count = count }

-- ---- the image

module _ (x : List ℕ) (ok : Taken x) where
  pub few : new_count x ≤ most_entries
  few = omega (arith, kept-few x (count_of x), ok.count)

  pub image_short : length (new_image x) ≤ most_octets
  image_short =
      omega (
        arith,
        image-long x,
        few,
        end_short 4 (new_count x) (new_entry x) (λ j h. omega (arith, long-entry x j)),
        end_short 52 (new_count x) (new_body x) (λ j h. omega (arith, long-body x j, ok.body)),
      )

-- ---- what comes out

pub image_taken : (x : List ℕ) → salvageable x ≡ true → salvaged_image x ≡ new_image x
unfolding salvaged_image
image_taken x e = rw e

pub image-refused : (x : List ℕ) → salvageable x ≡ false → salvaged_image x ≡ []
unfolding salvaged_image
image-refused x e = rw e

pub longest_image : (x : List ℕ) → length (salvaged_image x) ≤ most_octets
longest_image x = by_test (salvageable x) refl
  where
    by_test : (t : Bool) → salvageable x ≡ t → length (salvaged_image x) ≤ most_octets
    by_test true e = rw (image_taken x e) (image_short x (taken x e))
    by_test false e = rw (image-refused x e) (omega arith)
