-- The numbers that stand in a list: what a test that one of them passes tells of them, and where a number stands.
-- Assumes nothing.
use mathlib.Core.Path.{◌≡◌, refl, sym, ap, ◌∙◌}
use mathlib.Core.Bool.{Bool, true, false, ◌||◌, cond}
use mathlib.Core.List.{List, [], ◌∷◌}
use Prim.Native.Nat.{ℕ, zero, suc, ◌<◌}
use native.Mathlib.Omega.{arith}
use borrow.Author.Tests.{eqb-true, eq-eqb}
use lib.Dec.{eqb}
use lib.ListN.{length}
use Rattle.octets.specs.Lists.{octet}
use Rattle.salvage_entries.specs.Tests.{first_with}
use Rattle.std.specs.Prelude.{Some, unwrap_or}
use Rattle.std.specs.List.{find}
use Rattle.std.specs.List.{list_any}

-- a number stands in a list
abbrev pub In : ℕ → List ℕ → Type 0
In n l = list_any (λ m. eqb m n) l ≡ true

or_left : (a b : Bool) → a ≡ true → (a || b) ≡ true
or_left a b e = rw e

or_right : (a b : Bool) → b ≡ true → (a || b) ≡ true
or_right true b e = refl
or_right false b e = e

pub or_false_left : (a b : Bool) → (a || b) ≡ false → a ≡ false
or_false_left true b e = e
or_false_left false b e = refl

pub or_false_right : (a b : Bool) → (a || b) ≡ false → b ≡ false
or_false_right true b e = let z : ◌≡◌ {A = ℕ} 0 1 = cc in absurd (omega arith)
or_false_right false b e = e

pub in_first : (n : ℕ) (l : List ℕ) → In n (n ∷ l)
in_first n l = or_left (eqb n n) (list_any (λ m. eqb m n) l) (eq-eqb n n refl)

pub in_rest : (n m : ℕ) (l : List ℕ) → In n l → In n (m ∷ l)
in_rest n m l h = or_right (eqb m n) (list_any (λ k. eqb k n) l) h

-- ---- a number that passes is enough

pub some_if : (test : ℕ → Bool) (l : List ℕ) (n : ℕ) → In n l → test n ≡ true → list_any test l ≡ true
some_if test [] n h e = let z : ◌≡◌ {A = ℕ} 0 1 = cc in absurd (omega arith)
some_if test (m ∷ l) n h e = by_test (eqb m n) refl (λ r. some_if test l n r e)
  where
    by_test : (t : Bool) → eqb m n ≡ t → (In n l → list_any test l ≡ true) → (test m || list_any test l) ≡ true
    by_test true q rest = or_left (test m) (list_any test l) (ap test (eqb-true m n q) ∙ e)
    by_test false q rest =
        or_right (test m) (list_any test l) (rest (sym (ap (λ (t : Bool). t || list_any (λ k. eqb k n) l) q) ∙ h))

-- ---- none that passes

pub some_false : (test : ℕ → Bool) (l : List ℕ) (n : ℕ) → list_any test l ≡ false → In n l → test n ≡ false
some_false test l n e h = by_test (test n) refl
  where
    by_test : (t : Bool) → test n ≡ t → test n ≡ false
    by_test true q = let z : ◌≡◌ {A = ℕ} 0 1 = ap (λ (b : Bool). cond b 0 1) (sym (some_if test l n h q) ∙ e) in absurd (omega arith)
    by_test false q = q

pub none-some : (test : ℕ → Bool) (l : List ℕ) → ((n : ℕ) → In n l → test n ≡ false) → list_any test l ≡ false
none-some test [] h = refl
none-some test (m ∷ l) h = rw (h m (in_first m l), none-some test l (λ n i. h n (in_rest n m l i)))

-- ---- where it stands

pub record At (n : ℕ) (l : List ℕ) (i : ℕ) : Type 0 where
  pub inside : i < length l
  pub there : octet l i ≡ n

pub in_at : (n : ℕ) (l : List ℕ) → In n l → (i : ℕ) × At n l i
in_at n [] h = let z : ◌≡◌ {A = ℕ} 0 1 = cc in absurd (omega arith)
in_at n (m ∷ l) h = by_test (eqb m n) refl (λ r. in_at n l r)
  where
    by_test : (t : Bool) → eqb m n ≡ t → (In n l → (i : ℕ) × At n l i) → (i : ℕ) × At n (m ∷ l) i
    by_test true q rest = (0, record { inside = omega arith; there = eqb-true m n q })
    by_test false q rest =
        let r = rest (sym (ap (λ (t : Bool). t || list_any (λ k. eqb k n) l) q) ∙ h) in
        (suc r.0, record { inside = omega (arith, r.1.inside); there = r.1.there })

pub at_in : (l : List ℕ) (i : ℕ) → i < length l → In (octet l i) l
at_in [] i h = absurd (omega arith)
at_in (m ∷ l) zero h = in_first m l
at_in (m ∷ l) (suc i) h = in_rest (octet l i) m l (at_in l i (omega arith))

-- ---- the first that passes stands there and passes

pub first_passes : (test : ℕ → Bool) (l : List ℕ) → list_any test l ≡ true → (test (first_with test l) ≡ true) × In (first_with test l) l
first_passes test [] e = let z : ◌≡◌ {A = ℕ} 0 1 = cc in absurd (omega arith)
first_passes test (m ∷ l) e = by_test (test m) refl (λ r. first_passes test l r)
  where
    by_test : (t : Bool) → test m ≡ t → (list_any test l ≡ true → (test (first_with test l) ≡ true) × In (first_with test l) l)
        → (test (unwrap_or (cond t (Some m) (find test l)) 0) ≡ true) × In (unwrap_or (cond t (Some m) (find test l)) 0) (m ∷ l)
    by_test true q rest = (q, in_first m l)
    by_test false q rest =
        let r = rest (sym (ap (λ (t : Bool). t || list_any test l) q) ∙ e) in
        (r.0, in_rest (first_with test l) m l r.1)
