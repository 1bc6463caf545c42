-- A table's rule: one test that antt computes over the whole table gives the rule at each entry.
-- Assumes nothing.
use mathlib.Core.Path.{◌≡◌, ◌∙◌, subst, sym}
use mathlib.Core.Bool.{Bool, true, false, ◌&&◌}
use mathlib.Core.List.{List, [], ◌∷◌}
use Prim.Native.Nat.{ℕ, zero, suc, ◌+◌, ◌<◌}
use native.Mathlib.Nat.{add-zero, zero-add, add-suc, suc-add, le_of_suc-le-suc, not-suc-le-zero}
use native.Mathlib.Omega.{arith}
use lib.Dec.{T, eqb, eqb→eq}
use lib.ListN.{length}
use Rattle.octets.specs.Lists.{octet, IsTable}

pub both_left : (a b : Bool) → T (a && b) → T a
both_left true b t = tt
both_left false b t = t

pub both_right : (a b : Bool) → T (a && b) → T b
both_right true b t = t
both_right false b t = absurd t

-- the test passes at each entry and its place, the places counted from i
abbrev pub every : (ℕ → ℕ → Bool) → ℕ → List ℕ → Bool
every test i [] = true
every test i (x ∷ xs) = test i x && every test (suc i) xs

every_from : (test : ℕ → ℕ → Bool) (xs : List ℕ) (i : ℕ) → T (every test i xs) → (k : ℕ) → k < length xs → T (test (i + k) (octet xs k))
every_from test [] i t k h = absurd (not-suc-le-zero h)
every_from test (x ∷ xs) i t zero h =
    subst (λ (m : ℕ). T (test m x)) (sym (add-zero i)) (both_left (test i x) (every test (suc i) xs) t)
every_from test (x ∷ xs) i t (suc k) h =
    subst (λ (m : ℕ). T (test m (octet xs k))) (suc-add i k ∙ sym (add-suc i k))
    (every_from test xs (suc i) (both_right (test i x) (every test (suc i) xs) t) k (le_of_suc-le-suc h))

pub every_at : (test : ℕ → ℕ → Bool) (xs : List ℕ) → T (every test 0 xs) → (k : ℕ) → k < length xs → T (test k (octet xs k))
every_at test xs t k h = subst (λ (m : ℕ). T (test m (octet xs k))) (zero-add k) (every_from test xs 0 t k h)

-- the entry at each place k is rule k
abbrev pub by_rule : (ℕ → ℕ) → List ℕ → Bool
by_rule rule t = every (λ k x. eqb x (rule k)) 0 t

pub is-table : (n : ℕ) (rule : ℕ → ℕ) (t : List ℕ) → length t ≡ n → T (by_rule rule t) → IsTable n rule t
is-table n rule t long passed =
    record { entry = λ k h. eqb→eq (octet t k) (rule k) (every_at (λ j x. eqb x (rule j)) t passed k (omega arith)) }
