-- Document 01, 'What comes back', answer 4: the search ends at the first entry that matches. In a valid image no other entry has its SPI,
-- so it is the only one that matches.
-- Assumes nothing.
use mathlib.Core.Path.{◌≡◌, refl, sym, ap, ◌∙◌}
use mathlib.Core.Bool.{Bool, true, false, cond}
use mathlib.Core.List.{List}
use Prim.Native.Nat.{ℕ, zero, suc, ◌+◌, ◌-◌, ◌≤◌, ◌<◌}
use native.Mathlib.Decide.{ℕ_discrete}
use native.Mathlib.Omega.{arith}
use borrow.Author.Tests.{eqb-true}
use lib.Dec.{eqb}
use Rattle.std.specs.List.{find, range_with_len}
use Rattle.std.specs.Prelude.{Option, Some, None}
use Rattle.octets.proofs.Alls.{and_left, and_right}
use Rattle.bodies.specs.Body.{owner_of}
use Rattle.image.specs.Image.{version_of, count_of, spi_of, body_of}
use Rattle.association.specs.Search.{sees, has_spi, matches, first_from, entry_for}
use Rattle.association.specs.declared.search.Wanted.{Wanted}
use Rattle.image.proofs.ValidImages.{Valid, spi_once}

-- ---- the first number at which a test passes

-- k is the first of the n numbers from i on
pub record First (i n : ℕ) (test : ℕ → Bool) (k : ℕ) : Type 0 where
  pub from : i ≤ k
  pub to : k < i + n
  pub passes : test k ≡ true
  pub before : (p : ℕ) → i ≤ p → p < k → test p ≡ false

-- where the test fails at i, it fails at every number from i to a bound if it does at those behind i
fails_from : (i bound : ℕ) (test : ℕ → Bool) → test i ≡ false → ((p : ℕ) → i + 1 ≤ p → p < bound → test p ≡ false)
    → (p : ℕ) → i ≤ p → p < bound → test p ≡ false
fails_from i bound test e behind p l h = by_place (ℕ_discrete p i)
  where
    by_place : Dec (p ≡ i) → test p ≡ false
    by_place (yes q) = ap test q ∙ e
    by_place (no q) = behind p (omega arith) h

-- Some gives the first number at which the test passes, and None says that there is none
pub first-at : (n i : ℕ) (test : ℕ → Bool) (k : ℕ) → first_from i n test ≡ Some k → First i n test k
unfolding first_from
first-at zero i test k e = let z : ◌≡◌ {A = ℕ} 0 1 = cc in absurd (omega arith)
first-at (suc n) i test k e = by_test (test i) refl e (first-at n (i + 1) test k)
  where
    by_test : (t : Bool) → test i ≡ t → cond t (Some i) (first_from (i + 1) n test) ≡ Some k
        → (first_from (i + 1) n test ≡ Some k → First (i + 1) n test k) → First i (suc n) test k
    by_test true t here later =
        let same : i ≡ k = cc in
        record { from = omega arith; to = omega arith; passes = sym (ap test same) ∙ t; before = λ p l h. absurd (omega arith) }
    by_test false t here later =
        let f : First (i + 1) n test k = later here in
        record { from = omega arith; to = omega arith; passes = f.passes; before = fails_from i k test t f.before }

pub first_nothing : (n i : ℕ) (test : ℕ → Bool) → first_from i n test ≡ None → (p : ℕ) → i ≤ p → p < i + n → test p ≡ false
unfolding first_from
first_nothing zero i test e = λ p l h. absurd (omega arith)
first_nothing (suc n) i test e = by_test (test i) refl e (first_nothing n (i + 1) test)
  where
    by_test : (t : Bool) → test i ≡ t → cond t (Some i) (first_from (i + 1) n test) ≡ None
        → (first_from (i + 1) n test ≡ None → (p : ℕ) → i + 1 ≤ p → p < i + 1 + n → test p ≡ false)
        → (p : ℕ) → i ≤ p → p < i + suc n → test p ≡ false
    by_test true t here later = let z : ◌≡◌ {A = ℕ} 0 1 = cc in absurd (omega arith)
    by_test false t here later = λ p l h. fails_from i (i + 1 + n) test t (later here) p l (omega arith)

-- a search of the numbers from i to k, one at a time
module _ (k i : ℕ) (test : ℕ → Bool) where
  pub first-here : i < k → test i ≡ true → first_from i (k - i) test ≡ Some i
  unfolding first_from
  first-here h e = let left : k - i ≡ suc (k - (i + 1)) = omega arith in ap (λ (n : ℕ). first_from i n test) left ∙ simp e

  pub first_next : i < k → test i ≡ false → first_from i (k - i) test ≡ first_from (i + 1) (k - (i + 1)) test
  unfolding first_from
  first_next h e = let left : k - i ≡ suc (k - (i + 1)) = omega arith in ap (λ (n : ℕ). first_from i n test) left ∙ simp e

  pub first-none : k ≤ i → first_from i (k - i) test ≡ None
  unfolding first_from
  first-none h = let left : k - i ≡ 0 = omega arith in ap (λ (n : ℕ). first_from i n test) left

-- the library's search of the n numbers from i on finds it
pub first-found : (n i : ℕ) (test : ℕ → Bool) → find test (range_with_len i n) ≡ first_from i n test
unfolding first_from
first-found zero i test = refl
first-found (suc n) i test = ap (cond (test i) (Some i)) (first-found n (i + 1) test)

-- ---- the entry that is found

pub found_at : (image : List ℕ) (w : Wanted) (i : ℕ) → entry_for image w ≡ Some i → First 0 (count_of image) (matches image w) i
unfolding entry_for
found_at image w i e = first-at (count_of image) 0 (matches image w) i e

pub found_nothing : (image : List ℕ) (w : Wanted) → entry_for image w ≡ None
    → (i : ℕ) → i < count_of image → matches image w i ≡ false
unfolding entry_for
found_nothing image w e i h = first_nothing (count_of image) 0 (matches image w) e i (omega arith) (omega arith)

-- what an entry with an SPI has, for a desk: it, and an owner whom that desk sees
pub has_spi_lem : (image : List ℕ) (desk spi i : ℕ) → has_spi image desk spi i ≡ true
    → (spi_of image i ≡ spi) × (sees desk (owner_of (version_of image) (body_of image i)) ≡ true)
unfolding has_spi
has_spi_lem image desk spi i e =
    (eqb-true (spi_of image i) spi (and_left (eqb (spi_of image i) spi) _ e), and_right (eqb (spi_of image i) spi) _ e)

-- what an entry that matches has
pub matched_spi : (image : List ℕ) (w : Wanted) (i : ℕ) → matches image w i ≡ true → spi_of image i ≡ w.spi
unfolding matches
matched_spi image w i e = (has_spi_lem image w.desk w.spi i (and_left (has_spi image w.desk w.spi i) _ e)).0

pub matched_seen : (image : List ℕ) (w : Wanted) (i : ℕ) → matches image w i ≡ true
    → sees w.desk (owner_of (version_of image) (body_of image i)) ≡ true
unfolding matches
matched_seen image w i e = (has_spi_lem image w.desk w.spi i (and_left (has_spi image w.desk w.spi i) _ e)).1

-- in a valid image no other entry matches, so the one that does is found
pub matched_once : (image : List ℕ) → Valid image → (w : Wanted) (i j : ℕ) → i < count_of image → j < count_of image
    → matches image w i ≡ true → matches image w j ≡ true → i ≡ j
matched_once image v w i j hi hj mi mj = spi_once image v i j hi hj (matched_spi image w i mi ∙ sym (matched_spi image w j mj))

pub found-matching : (image : List ℕ) → Valid image → (w : Wanted) (i : ℕ) → i < count_of image → matches image w i ≡ true
    → entry_for image w ≡ Some i
found-matching image v w i h m = by_answer (entry_for image w) refl
  where
    by_answer : (f : Option ℕ) → entry_for image w ≡ f → f ≡ Some i
    by_answer (Some k) e =
        let f : First 0 (count_of image) (matches image w) k = found_at image w k e in
        ap (λ (x : ℕ). Some x) (matched_once image v w k i (omega (arith, f.to)) h f.passes m)
    by_answer None e =
        let none : matches image w i ≡ false = found_nothing image w e i h in
        let z : ◌≡◌ {A = ℕ} 0 1 = cc in
        absurd (omega arith)
