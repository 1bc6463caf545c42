-- Two images that differ in marks alone have the same version, count and directions; and so have the first and the last of several.
-- Assumes nothing.
use Prim.Native.Nat.{ℕ, ◌+◌, ◌*◌, ◌≤◌, ◌<◌}
use mathlib.Core.Path.{◌≡◌, refl, ap, ap₂, ◌∙◌}
use mathlib.Core.Logic.{◌⊎◌, inl, inr}
use mathlib.Core.List.{List}
use native.Mathlib.Decide.{dec_lt}
use native.Mathlib.Nat.{mul-le-mul_left}
use native.Mathlib.Omega.{arith}
use lib.ListN.{length}
use Rattle.octets.specs.Lists.{octet}
use Rattle.bodies.proofs.Layouts.{ends_before}
use Rattle.promises.specs.Images.{shape_in, version_in, count_in, place, mark_place, direction_at}
use Rattle.promises.specs.Versions.{shape_of}
use Rattle.promises.proofs.Fields.{shapes}

-- a place outside the mark of every entry
abbrev pub Unmarked : List ℕ → ℕ → Type 0
Unmarked image p = (i : ℕ) → i < count_in image → (p < mark_place image i) ⊎ (mark_place image i + 4 ≤ p)

pub record Same (before image : List ℕ) : Type 0 where
  pub size : length image ≡ length before
  pub elsewhere : (p : ℕ) → Unmarked before p → octet image p ≡ octet before p

pub same_itself : (image : List ℕ) → Same image image
same_itself image = record { size = refl; elsewhere = λ p u. refl }

-- the contents end before the first body
in_contents : (image : List ℕ) (p : ℕ) → p < 2 + 4 * count_in image → Unmarked image p
in_contents image p h i below = inl (omega (arith, (shapes (version_in image)).begins))

-- and in a body the fields stand before the mark
in_body : (image : List ℕ) (e j : ℕ) → j < 18 → Unmarked image (place image e j)
in_body image e j h i below = by_place (dec_lt i e)
  where
    before : (a b : ℕ) → a ≤ b → (shape_in image).body * a ≤ (shape_in image).body * b
    before a b l = mul-le-mul_left (shape_in image).body l

    by_place : Dec (i < e) → (place image e j < mark_place image i) ⊎ (mark_place image i + 4 ≤ place image e j)
    by_place (yes l) = inr (omega (arith, ends_before (shape_in image).body i e l, (shapes (version_in image)).inside))
    by_place (no l) = inl (omega (arith, (shapes (version_in image)).holds, before e i (omega arith)))

module _ (before image : List ℕ) (same : Same before image) where
  pub version-same : version_in image ≡ version_in before
  version-same = same.elsewhere 0 (in_contents before 0 (omega arith))

  pub count_same : count_in image ≡ count_in before
  count_same = same.elsewhere 1 (in_contents before 1 (omega arith))

  -- everything stands where it stood
  pub place_same : (e j : ℕ) → place image e j ≡ place before e j
  place_same e j = ap₂ (λ (v k : ℕ). (shape_of v).front + 4 * k + (shape_of v).body * e + j) version-same count_same

  pub mark-place-same : (e : ℕ) → mark_place image e ≡ mark_place before e
  mark-place-same e = place_same e (shape_in image).mark ∙ ap (λ (v : ℕ). place before e (shape_of v).mark) version-same

  pub direction-same : (e : ℕ) → direction_at image e ≡ direction_at before e
  direction-same e =
      ap (octet image) (place_same e 2) ∙ same.elsewhere (place before e 2) (in_body before e 2 (omega arith))

  unmarked_same : (p : ℕ) → Unmarked before p → Unmarked image p
  unmarked_same p u i below = by_side (u i (omega (arith, count_same)))
    where
      by_side : (p < mark_place before i) ⊎ (mark_place before i + 4 ≤ p) → (p < mark_place image i) ⊎ (mark_place image i + 4 ≤ p)
      by_side (inl h) = inl (omega (arith, mark-place-same i))
      by_side (inr h) = inr (omega (arith, mark-place-same i))

  pub same_then : (last : List ℕ) → Same image last → Same before last
  same_then last next =
      record {
        size = next.size ∙ same.size;
        elsewhere = λ p u. next.elsewhere p (unmarked_same p u) ∙ same.elsewhere p u;
      }
