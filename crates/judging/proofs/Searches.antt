-- The association that a call finds is that of an entry which the search gives: below the count, with the SPI and the body that were
-- wanted.
-- Assumes nothing.
use Prim.Native.Nat.{ℕ, ◌<◌}
use mathlib.Core.Path.{◌≡◌, refl, ap}
use mathlib.Core.Bool.{true, false}
use mathlib.Core.List.{List}
use native.Mathlib.Omega.{arith}
use Rattle.std.specs.Prelude.{Option, Some, None}
use Rattle.association.specs.Association.{association_of, one, none, is_none, the_one, match_at, matching, index_of}
use Rattle.image.specs.Image.{count_of}
use Rattle.association.specs.Search.{matches, entry_for}
use Rattle.association.specs.declared.search.Wanted.{Wanted}
use Rattle.association.proofs.Finding.{found_at, found_nothing}

-- entry i is the one that is found
pub record Finds (image last : List ℕ) (w : Wanted) (i : ℕ) : Type 0 where
  pub below : i < count_of image
  pub passes : matches image w i ≡ true
  pub match : matching image last w ≡ one (association_of image last i)
  pub some : is_none (matching image last w) ≡ false
  pub association : the_one (matching image last w) ≡ association_of image last i

-- an answer of the search
pub finds_at : (image last : List ℕ) (w : Wanted) (i : ℕ) → entry_for image w ≡ Some i → Finds image last w i
unfolding matching
finds_at image last w i e =
    let f = found_at image w i e in
    record {
      below = omega (arith, f.to);
      passes = f.passes;
      match = ap (match_at image last) e;
      some = ap (λ (x : Option ℕ). is_none (match_at image last x)) e;
      association = ap (λ (x : Option ℕ). the_one (match_at image last x)) e;
    }

pub finds : (image last : List ℕ) (w : Wanted) → is_none (matching image last w) ≡ false → Finds image last w (index_of (entry_for image w))
unfolding matching
finds image last w some = by_answer (entry_for image w) refl some
  where
    by_answer : (x : Option ℕ) → entry_for image w ≡ x → is_none (match_at image last x) ≡ false → Finds image last w (index_of x)
    by_answer (Some i) e h = finds_at image last w i e
    by_answer None e h = let z : ◌≡◌ {A = ℕ} 0 1 = cc in absurd (omega arith)

-- and where none is found, no entry matches
pub finds_none : (image last : List ℕ) (w : Wanted) → is_none (matching image last w) ≡ true → (i : ℕ) → i < count_of image
    → matches image w i ≡ false
unfolding matching
finds_none image last w missing = by_answer (entry_for image w) refl missing
  where
    by_answer : (x : Option ℕ) → entry_for image w ≡ x → is_none (match_at image last x) ≡ true
        → (i : ℕ) → i < count_of image → matches image w i ≡ false
    by_answer (Some i) e h = let z : ◌≡◌ {A = ℕ} 0 1 = cc in absurd (omega arith)
    by_answer None e h = found_nothing image w e

pub none_found : (image last : List ℕ) (w : Wanted) → ((i : ℕ) → i < count_of image → matches image w i ≡ false)
    → matching image last w ≡ none
unfolding matching
none_found image last w fails = by_answer (entry_for image w) refl
  where
    by_answer : (x : Option ℕ) → entry_for image w ≡ x → match_at image last x ≡ none
    by_answer (Some i) e =
        let f = found_at image w i e in
        let missed : matches image w i ≡ false = fails i (omega (arith, f.to)) in
        let passed : matches image w i ≡ true = f.passes in
        let z : ◌≡◌ {A = ℕ} 0 1 = cc in
        absurd (omega arith)
    by_answer None e = refl
