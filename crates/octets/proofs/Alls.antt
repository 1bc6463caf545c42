-- A test over the numbers below a bound: what its passing tells of each of them, what makes it pass or fail, and when two such tests agree.
-- Assumes nothing.
use mathlib.Core.Path.{◌≡◌, refl, ap, ap₂, ◌∙◌}
use mathlib.Core.Bool.{Bool, true, false, ◌&&◌, and-false}
use Prim.Native.Nat.{ℕ, zero, suc, ◌<◌}
use native.Mathlib.Decide.{dec_lt}
use native.Mathlib.Omega.{arith}
use Rattle.octets.specs.Lists.{all}

-- ---- two tests

pub and_left : (a b : Bool) → (a && b) ≡ true → a ≡ true
and_left true b e = refl
and_left false b e = e

pub and_right : (a b : Bool) → (a && b) ≡ true → b ≡ true
and_right true b e = e
and_right false b e = let z : ◌≡◌ {A = ℕ} 0 1 = cc in absurd (omega arith)

-- ---- from each number to all

pub all_every : (n : ℕ) (test : ℕ → Bool) → ((i : ℕ) → i < n → test i ≡ true) → all n test ≡ true
unfolding all
all_every zero test h = refl
all_every (suc n) test h = rw (all_every n test (λ i l. h i (omega arith)), h n (omega arith))

-- ---- from all to each

pub all-at : (n : ℕ) (test : ℕ → Bool) → all n test ≡ true → (i : ℕ) → i < n → test i ≡ true
unfolding all
all-at zero test e i h = absurd (omega arith)
all-at (suc n) test e i h = by_place (dec_lt i n) (all-at n test (and_left (all n test) (test n) e) i)
  where
    by_place : Dec (i < n) → (i < n → test i ≡ true) → test i ≡ true
    by_place (yes l) below = below l
    by_place (no g) below = let last : i ≡ n = omega arith in ap test last ∙ and_right (all n test) (test n) e

-- one that fails is enough
pub all_fails : (n : ℕ) (test : ℕ → Bool) (i : ℕ) → i < n → test i ≡ false → all n test ≡ false
unfolding all
all_fails zero test i h e = absurd (omega arith)
all_fails (suc n) test i h e = by_place (dec_lt i n) (λ l. all_fails n test i l e)
  where
    by_place : Dec (i < n) → (i < n → all n test ≡ false) → (all n test && test n) ≡ false
    by_place (yes l) below = rw (below l)
    by_place (no g) below =
        let last : n ≡ i = omega arith in
        ap (λ (t : Bool). all n test && t) (ap test last ∙ e) ∙ and-false (all n test)

-- tests that agree below n
pub all_same : (n : ℕ) (test other : ℕ → Bool) → ((i : ℕ) → i < n → test i ≡ other i) → all n test ≡ all n other
unfolding all
all_same zero test other h = refl
all_same (suc n) test other h = ap₂ ◌&&◌ (all_same n test other (λ i l. h i (omega arith))) (h n (omega arith))
