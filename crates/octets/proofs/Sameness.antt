-- The test `same` passes on equal lists and on no others.
-- Assumes nothing.
use mathlib.Core.Path.{◌≡◌, refl, sym, ap, ap₂, ◌∙◌}
use mathlib.Core.Bool.{Bool, true, false, ◌&&◌}
use mathlib.Core.List.{List, [], ◌∷◌}
use Prim.Native.Nat.{ℕ, ◌<◌}
use native.Mathlib.Omega.{arith}
use borrow.Author.Tests.{eq-eqb, eqb-true, eqb-false}
use lib.Dec.{eqb}
use lib.ListN.{length}
use lib.Seq.{ext_get_or}
use Rattle.octets.specs.Lists.{octet}
use Rattle.octets.specs.Same.{same}

pub same_refl : (xs : List ℕ) → same xs xs ≡ true
unfolding same
same_refl [] = refl
same_refl (x ∷ xs) = rw (eq-eqb x x refl, same_refl xs)

and_true : (a b : Bool) → (a && b) ≡ true → (a ≡ true) × (b ≡ true)
and_true true b e = (refl, e)
and_true false b e = let z : ◌≡◌ {A = ℕ} 0 1 = cc in absurd (omega arith)

pub same_eq : (xs ys : List ℕ) → same xs ys ≡ true → xs ≡ ys
unfolding same
same_eq [] [] e = refl
same_eq [] (y ∷ ys) e = let z : ◌≡◌ {A = ℕ} 0 1 = cc in absurd (omega arith)
same_eq (x ∷ xs) [] e = let z : ◌≡◌ {A = ℕ} 0 1 = cc in absurd (omega arith)
same_eq (x ∷ xs) (y ∷ ys) e =
    let both = and_true (eqb x y) (same xs ys) e in
    ap₂ (λ (z : ℕ) (zs : List ℕ). z ∷ zs) (eqb-true x y both.0) (same_eq xs ys both.1)

by_test : (t : Bool) (xs ys : List ℕ) → same xs ys ≡ t → (xs ≡ ys → ⊥) → t ≡ false
by_test true xs ys e differ = absurd (differ (same_eq xs ys e))
by_test false xs ys e differ = refl

pub same_ne : (xs ys : List ℕ) → (xs ≡ ys → ⊥) → same xs ys ≡ false
same_ne xs ys differ = by_test (same xs ys) xs ys refl differ

-- a number that is 0 if and only if the octets agree tells whether the lists are the same
module _ (a b : List ℕ) (d : ℕ) (l : length a ≡ length b) (agree : d ≡ 0 → (k : ℕ) → k < length a → octet a k ≡ octet b k) (none : a ≡ b → d ≡ 0) where
  told : (t : Bool) → eqb d 0 ≡ t → t ≡ same a b
  told true e = sym (ap (λ (z : List ℕ). same z b) (ext_get_or 0 a b l (agree (eqb-true d 0 e))) ∙ same_refl b)
  told false e = sym (same_ne a b (λ h. eqb-false d 0 e (none h)))

  pub by_difference : eqb d 0 ≡ same a b
  by_difference = told (eqb d 0) refl
