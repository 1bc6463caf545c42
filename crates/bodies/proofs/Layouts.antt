-- The layout of every version is lawful, and what follows of places that are products.
-- Assumes nothing.
use Prim.Native.Nat.{ℕ, ◌+◌, ◌*◌, ◌≤◌, ◌<◌}
use native.Mathlib.Nat.{mul-suc, mul-le-mul, mul-le-mul_left}
use native.Mathlib.Omega.{arith}
use mathlib.Core.Path.{◌≡◌}
use mathlib.Core.Bool.{Bool, true, false, cond}
use lib.Dec.{eqb}
use Rattle.bodies.specs.Layout.{fields_end, most_body, key_length, id_length, version_one, version_two, version_three, version_four, layout_of, Lawful}

-- ---- one proof for each version

-- what a version has not asks for nothing
without : {A : Type 0} → false ≡ true → A
without e = let z : ◌≡◌ {A = ℕ} 0 1 = cc in absurd (omega arith)

one_lawful : Lawful version_one
one_lawful =
    record {
      key = omega arith;
      mark = omega arith;
      inside = omega arith;
      owner = without;
      small = omega arith;
      few = omega arith;
      entry = without;
    }

two_lawful : Lawful version_two
two_lawful =
    record {
      key = omega arith;
      mark = omega arith;
      inside = omega arith;
      owner = without;
      small = omega arith;
      few = omega arith;
      entry = without;
    }

three_lawful : Lawful version_three
three_lawful =
    record {
      key = omega arith;
      mark = omega arith;
      inside = omega arith;
      owner = without;
      small = omega arith;
      few = omega arith;
      entry = λ e. omega arith;
    }

four_lawful : Lawful version_four
four_lawful =
    record {
      key = omega arith;
      mark = omega arith;
      inside = omega arith;
      owner = λ e. omega arith;
      small = omega arith;
      few = omega arith;
      entry = λ e. omega arith;
    }

pub lawful : (version : ℕ) → Lawful (layout_of version)
unfolding layout_of
lawful version = by-version (eqb version 4) (eqb version 3) (eqb version 2)
  where
    by-version : (four three two : Bool) → Lawful (cond four version_four (cond three version_three (cond two version_two version_one)))
    by-version true three two = four_lawful
    by-version false true two = three_lawful
    by-version false false true = two_lawful
    by-version false false false = one_lawful

-- ---- over any lawful layout

-- the fields that every version has stand before the mark, and in the body
pub fields-inside : (version : ℕ) → (fields_end ≤ (layout_of version).mark) × (fields_end ≤ (layout_of version).body)
fields-inside version = let l : Lawful (layout_of version) = lawful version in (omega arith, omega arith)

-- what a body holds of its key has room for an ID, and stands before the mark
pub id_before : (version : ℕ) → (layout_of version).key + id_length ≤ (layout_of version).mark
id_before version = of (layout_of version).keys (lawful version).mark
  where
    of : (keys : Bool) → (layout_of version).key + cond keys id_length key_length ≤ (layout_of version).mark
        → (layout_of version).key + id_length ≤ (layout_of version).mark
    of true h = h
    of false h = omega arith

-- bodies of which an octet counts take few octets
pub product_small : (n i : ℕ) → n ≤ most_body → i < 256 → n * i ≤ most_body * 255
product_small n i h l = let most : i ≤ 255 = omega arith in mul-le-mul h most

-- of bodies of n octets each, an earlier one ends before a later one
pub ends_before : (n i j : ℕ) → i < j → n * i + n ≤ n * j
ends_before n i j h = rw (← mul-suc n i) (mul-le-mul_left n h)
