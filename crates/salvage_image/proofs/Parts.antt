-- The parts of a new image, as the code puts them one behind the other; and how long they are.
-- Assumes nothing.
use mathlib.Core.Path.{◌≡◌, refl, ap, ap₂, ◌∙◌}
use mathlib.Core.List.{List, [], ◌∷◌, ◌++◌}
use Prim.Native.Nat.{ℕ, ◌+◌}
use native.Mathlib.Numerals.{add-one}
use native.Mathlib.Omega.{arith}
use lib.Dec.{eqb, ltb}
use lib.ListN.{length, length-append}
use Rattle.octets.specs.Lists.{octet, tab, part}
use Rattle.octets.specs.Numbers.{bytes}
use Rattle.octets.proofs.Numbers.{length-bytes}
use Rattle.octets.proofs.Parts.{length_part}
use Rattle.bodies.specs.Body.{body_in}
use Rattle.bodies.specs.Layout.{layout_of}
use Rattle.image.specs.Image.{version_of, layout, spi_of, position_of, body_place}
use Rattle.salvage_entries.specs.Kept.{old_index}
use Rattle.salvage_entries.specs.Tests.{first_with}
use Rattle.std.specs.List.{count_by}
use Rattle.salvage_image.specs.KeptOf.{KeptOf}
use Rattle.writing.specs.Text.{end_to_end}
use Rattle.salvage_image.specs.Salvage.{new_count, new_place, new_entry, new_body, new_image}

-- ---- octets

pub part_more : (at n : ℕ) (s : List ℕ) → part at (n + 1) s ≡ part at n s ++ (octet s (at + n) ∷ [])
unfolding part tab
part_more at n s = rw add-one

pub part_none : (at : ℕ) (s : List ℕ) → part at 0 s ≡ []
unfolding part tab
part_none at s = refl

pub length-there : (x : List ℕ) (version at : ℕ) → length (body_in x version at) ≡ (layout_of version).body
unfolding body_in
length-there x version at = length_part at (layout_of version).body x

-- ---- what the code knows of the kept entries

module _ (x kept : List ℕ) (k : KeptOf x kept) where
  pub old_is : (j : ℕ) → first_with (λ i. eqb (count_by (λ h. ltb (spi_of x h) (spi_of x i)) kept) j) kept ≡ old_index x j
  old_is j = ap (λ (l : List ℕ). first_with (λ i. eqb (count_by (λ h. ltb (spi_of x h) (spi_of x i)) l) j) l) k.is

  pub count-is : length kept ≡ new_count x
  count-is = ap (λ (l : List ℕ). length l) k.is

  pub place_is : (j : ℕ) → body_place (layout x) (length kept) j ≡ new_place x j
  place_is j = ap (λ (n : ℕ). body_place (layout x) n j) count-is

-- ---- an entry and a body

pub entry-is : (x : List ℕ) (index old spi place : ℕ) → old ≡ old_index x index → spi ≡ spi_of x old → place ≡ new_place x index
    → new_entry x index ≡ bytes 2 spi ++ bytes 2 place
unfolding new_entry
entry-is x index old spi place a b e = rw (e, b, a)

pub long-entry : (x : List ℕ) (j : ℕ) → length (new_entry x j) ≡ 4
unfolding new_entry
long-entry x j =
    length-append (bytes 2 (spi_of x (old_index x j))) (bytes 2 (new_place x j))
    ∙ ap₂ ◌+◌ (length-bytes 2 (spi_of x (old_index x j))) (length-bytes 2 (new_place x j))

pub body_is : (x : List ℕ) (index old position : ℕ) → old ≡ old_index x index → position ≡ position_of x old
    → new_body x index ≡ body_in x (version_of x) position
unfolding new_body
body_is x index old position a b = rw (b, a)

pub long-body : (x : List ℕ) (j : ℕ) → length (new_body x j) ≡ (layout x).body
unfolding new_body
long-body x j = length-there x (version_of x) (position_of x (old_index x j))

-- ---- the image

pub image-is : (x kept : List ℕ) (version : ℕ) → KeptOf x kept → version ≡ version_of x
    → new_image x ≡ version ∷ length kept ∷ (end_to_end (length kept) (new_entry x) ++ end_to_end (length kept) (new_body x))
unfolding new_image
image-is x kept version k e = rw (e, count-is x kept k)

pub image-long : (x : List ℕ) → length (new_image x) ≡ 2 + length (end_to_end (new_count x) (new_entry x)) + length (end_to_end (new_count x) (new_body x))
unfolding new_image
image-long x = simp length-append (omega arith)
