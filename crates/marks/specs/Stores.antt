-- Document 01, 'Managed numbers', and document 02, requests 5 and 9: octet stores. A plan says by rule how many there are and what each one is;
-- they are made in order, and a cut leaves the first j of them.
-- Assumes nothing.
use Rattle.std.specs.Prelude.{ℕ, zero, suc, ◌+◌, ◌-◌, ◌*◌, ◌/◌, ◌%◌, ◌^◌, cond, List, [], ◌∷◌, ◌++◌, eqb, set, take}
use Rattle.std.specs.Int.Count.{count_trailing_zeros}
use Rattle.marks.specs.Gray.{gray}
use Rattle.marks.specs.declared.plans.Plan.{Plan}
use Rattle.marks.specs.declared.plans.Plan.TheVariants as plan
use Rattle.marks.specs.declared.plans.Store.{Store}

-- ---- one raise of a mark

-- the bit of the code that raising m by one flips, and the octet of the code that holds it, both counted from the last
abbrev pub flipped_bit : ℕ → ℕ
flipped_bit m = count_trailing_zeros 32 (m + 1)

abbrev pub flipped_octet : ℕ → ℕ
flipped_octet m = flipped_bit m / 8

-- that octet of a code
abbrev pub code_octet : ℕ → ℕ → ℕ
code_octet code k = code / 2 ^ (8 * k) % 256

-- the store that raises the mark at a place from m to m + 1
abbrev pub store_of : ℕ → ℕ → Store
store_of at m = record { at = at + 3 - flipped_octet m; value = code_octet (gray (m + 1)) (flipped_octet m) }

-- store i of those that raise it from m on, one at a time
abbrev pub raising_store : ℕ → ℕ → ℕ → Store
raising_store at m i = store_of at (m + i)

-- ---- a plan

-- how many stores it has
abbrev pub stores_in : Plan → ℕ
stores_in plan.Nothing = 0
stores_in (plan.One s) = 1
stores_in (plan.Two s t) = 2
stores_in (plan.Three s t u) = 3
stores_in (plan.Raise at from to) = to - from

-- store i of them
abbrev pub store_at : Plan → ℕ → Store
store_at plan.Nothing i = record { at = 0; value = 0 }
store_at (plan.One s) i = s
store_at (plan.Two s t) i = cond (eqb i 0) s t
store_at (plan.Three s t u) i = cond (eqb i 0) s (cond (eqb i 1) t u)
store_at (plan.Raise at from to) i = raising_store at from i

-- the list f 0, f 1, .., f (n - 1)
unfoldable pub steps : ℕ → (ℕ → Store) → List Store
steps zero f = []
steps (suc n) f = steps n f ++ (f n ∷ [])

abbrev pub stores_of : Plan → List Store
stores_of p = steps (stores_in p) (store_at p)

abbrev pub first_stores : Plan → ℕ → List Store
first_stores p j = take j (stores_of p)

-- ---- carried out

unfoldable pub stored : List ℕ → List Store → List ℕ
stored image [] = image
stored image (s ∷ rest) = stored (set image s.at s.value) rest
