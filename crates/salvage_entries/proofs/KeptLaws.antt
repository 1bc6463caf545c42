-- The entries that are kept: no more than were gone through, each as it is asked of it, and no two with the same SPI or position. Whether one
-- is kept is decided by itself and those kept before it, and nothing later undoes it.
-- Assumes nothing.
use mathlib.Core.Path.{◌≡◌, refl, sym, ap, ◌∙◌}
use mathlib.Core.Bool.{Bool, true, false, ◌&&◌, cond}
use mathlib.Core.List.{List, [], ◌∷◌, ◌++◌}
use Prim.Native.Nat.{ℕ, zero, suc, ◌+◌, ◌≤◌, ◌<◌}
use native.Mathlib.Decide.{dec_lt, ℕ_discrete}
use native.Mathlib.Omega.{arith}
use borrow.Author.Tests.{leb-true, ltb-true, lt-ltb, le-ltb, eq-eqb, ne_eqb, not-true}
use lib.Dec.{eqb, ltb}
use lib.ListN.{length, length-append}
use Rattle.octets.proofs.Alls.{and_left, and_right}
use Rattle.bodies.specs.Body.{body_ok}
use Rattle.image.specs.Image.{version_of, count_of, spi_of, position_of, layout}
use Rattle.std.specs.List.{list_any}
use Rattle.salvage_entries.specs.Kept.{body_there, keepable, kept_among, is_kept}
use Rattle.salvage_entries.proofs.Members.{In}
use Rattle.salvage_entries.proofs.TestLaws.{or_false, some_last}

-- ---- how many

pub kept-few : (x : List ℕ) (n : ℕ) → length (kept_among x n) ≤ n
unfolding kept_among
kept-few x zero = omega arith
kept-few x (suc n) = by_test (keepable x (kept_among x n) n) (kept-few x n)
  where
    by_test : (t : Bool) → length (kept_among x n) ≤ n → length (cond t (kept_among x n ++ (n ∷ [])) (kept_among x n)) ≤ suc n
    by_test true few = omega (arith, length-append (kept_among x n) (n ∷ []))
    by_test false few = omega arith

-- ---- contents order

ltb_more : (j n : ℕ) → (j ≡ n → ⊥) → ltb j n ≡ ltb j (suc n)
ltb_more j n other = by_place (dec_lt j n)
  where
    by_place : Dec (j < n) → ltb j n ≡ ltb j (suc n)
    by_place (yes l) = lt-ltb j n l ∙ sym (lt-ltb j (suc n) (omega arith))
    by_place (no g) = le-ltb j n (omega arith) ∙ sym (le-ltb j (suc n) (omega (arith, other)))

-- one of the first n is kept as it was when its turn came
pub kept_rule : (x : List ℕ) (n j : ℕ) → list_any (λ h. eqb h j) (kept_among x n) ≡ (ltb j n && keepable x (kept_among x j) j)
unfolding kept_among
kept_rule x zero j = simp (le-ltb j 0 (omega arith))
kept_rule x (suc n) j = by_place (ℕ_discrete j n) (keepable x (kept_among x n) n) refl (kept_rule x n j)
  where
    by_place : Dec (j ≡ n) → (t : Bool) → keepable x (kept_among x n) n ≡ t
        → list_any (λ h. eqb h j) (kept_among x n) ≡ (ltb j n && keepable x (kept_among x j) j)
        → list_any (λ h. eqb h j) (cond t (kept_among x n ++ (n ∷ [])) (kept_among x n)) ≡ (ltb j (suc n) && keepable x (kept_among x j) j)
    by_place (yes here) true k e =
        some_last (λ h. eqb h j) (kept_among x n) n
        ∙ rw (e, le-ltb j n (omega arith), lt-ltb j (suc n) (omega arith), eq-eqb n j (sym here))
        (sym (ap (λ (i : ℕ). keepable x (kept_among x i) i) here ∙ k))
    by_place (yes here) false k e =
        e ∙ rw (le-ltb j n (omega arith), lt-ltb j (suc n) (omega arith)) (sym (ap (λ (i : ℕ). keepable x (kept_among x i) i) here ∙ k))
    by_place (no other) true k e =
        some_last (λ h. eqb h j) (kept_among x n) n
        ∙ rw (ne_eqb n j (λ h. other (sym h)), or_false)
        (e ∙ ap (λ (t : Bool). t && keepable x (kept_among x j) j) (ltb_more j n other))
    by_place (no other) false k e = e ∙ ap (λ (t : Bool). t && keepable x (kept_among x j) j) (ltb_more j n other)

pub in_order : (x : List ℕ) (i : ℕ) → is_kept x i ≡ (ltb i (count_of x) && keepable x (kept_among x i) i)
in_order x i = kept_rule x (count_of x) i

-- so of those before an entry the kept ones are those that stay kept
pub kept-before : (x : List ℕ) (n i : ℕ) → n ≤ count_of x → In i (kept_among x n) → (i < n) × (is_kept x i ≡ true)
kept-before x n i h e =
    let both : (ltb i n && keepable x (kept_among x i) i) ≡ true = sym (kept_rule x n i) ∙ e in
    let below : i < n = ltb-true i n (and_left (ltb i n) (keepable x (kept_among x i) i) both) in (
      below,
      in_order x i ∙ rw (lt-ltb i (count_of x) (omega arith)) (and_right (ltb i n) (keepable x (kept_among x i) i) both),
    )

pub kept_then : (x : List ℕ) (n i : ℕ) → i < n → is_kept x i ≡ true → In i (kept_among x n)
kept_then x n i below k =
    kept_rule x n i ∙ rw (lt-ltb i n below) (and_right (ltb i (count_of x)) (keepable x (kept_among x i) i) (sym (in_order x i) ∙ k))

-- ---- what is known of a kept entry

pub record Good (x : List ℕ) (i : ℕ) : Type 0 where
  pub spi : (1 ≤ spi_of x i) × (spi_of x i ≤ 65534)
  pub inside : position_of x i + (layout x).body ≤ length x
  pub body : body_ok (version_of x) (body_there x i) ≡ true

pub good : (x before : List ℕ) (i : ℕ) → keepable x before i ≡ true → Good x i
unfolding keepable
good x before i e =
    record {
      spi = (leb-true 1 (spi_of x i) (search (and_left, and_right) depth 9), leb-true (spi_of x i) 65534 (search (and_left, and_right) depth 9));
      inside = leb-true (position_of x i + (layout x).body) (length x) (search (and_left, and_right) depth 9);
      body = search (and_left, and_right) depth 9;
    }

pub spi_new_lem : (x before : List ℕ) (i : ℕ) → keepable x before i ≡ true → list_any (λ h. eqb (spi_of x h) (spi_of x i)) before ≡ false
unfolding keepable
spi_new_lem x before i e = not-true (list_any (λ h. eqb (spi_of x h) (spi_of x i)) before) (search (and_left, and_right) depth 9)
