-- The stores of any plan: how many there are, the first of them, and one more of them; and if each stands inside a few octets at one place,
-- nothing else differs after the first j of them.
-- Assumes nothing.
use mathlib.Core.Path.{◌≡◌, refl, sym, ap, ◌∙◌}
use mathlib.Core.Logic.{inl, inr}
use mathlib.Core.List.{List, [], ◌∷◌, ◌++◌}
use Prim.Native.Nat.{ℕ, zero, suc, ◌+◌, ◌≤◌, ◌<◌, min}
use native.Mathlib.Decide.{dec_lt}
use native.Mathlib.Numerals.{add-one}
use native.Mathlib.Omega.{arith}
use lib.ListN.{length, set, take, length-set, length-append}
use lib.Seq.{get_or-set_other, take_all, take-append-le}
use Rattle.octets.specs.Lists.{octet}
use Rattle.marks.specs.Stores.{stores_in, store_at, steps, stores_of, first_stores, stored}
use Rattle.marks.specs.declared.plans.Plan.{Plan}
use Rattle.marks.specs.declared.plans.Store.{Store}
use Rattle.octets.proofs.Outside.{Outside, Changed}

-- the image after one store
abbrev pub put : List ℕ → Store → List ℕ
put image s = set image s.at s.value

pub length-stored : (image : List ℕ) (stores : List Store) → length (stored image stores) ≡ length image
unfolding stored
length-stored image [] = refl
length-stored image (s ∷ rest) = length-stored (put image s) rest ∙ length-set image s.at s.value

stored_snoc : (image : List ℕ) (stores : List Store) (s : Store) → stored image (stores ++ (s ∷ [])) ≡ put (stored image stores) s
unfolding stored
stored_snoc image [] s = refl
stored_snoc image (x ∷ rest) s = stored_snoc (put image x) rest s

module _ (f : ℕ → Store) where
  pub length-steps : (n : ℕ) → length (steps n f) ≡ n
  unfolding steps
  length-steps zero = refl
  length-steps (suc n) = length-append (steps n f) (f n ∷ []) ∙ omega (arith, length-steps n)

  -- the first j of n
  pub take_steps : (j n : ℕ) → take j (steps n f) ≡ steps (min j n) f
  unfolding steps
  take_steps j zero =
      let none : 0 ≡ min j 0 = omega arith in
      take_all j [] (omega arith) ∙ ap (λ (k : ℕ). steps k f) none
  take_steps j (suc n) = by_place (dec_lt n j) (take_steps j n)
    where
      by_place : Dec (n < j) → take j (steps n f) ≡ steps (min j n) f → take j (steps (suc n) f) ≡ steps (min j (suc n)) f
      by_place (yes h) fewer =
          let all : min j (suc n) ≡ suc n = omega arith in
          take_all j (steps (suc n) f) (omega (arith, length-steps (suc n))) ∙ sym (ap (λ (k : ℕ). steps k f) all)
      by_place (no h) fewer =
          let some : min j n ≡ min j (suc n) = omega arith in
          take-append-le j (steps n f) (f n ∷ []) (omega (arith, length-steps n))
          ∙ fewer
          ∙ ap (λ (k : ℕ). steps k f) some

  -- none, and one more
  pub stored-none : (image : List ℕ) → stored image (steps 0 f) ≡ image
  unfolding steps stored
  stored-none image = refl

  pub stored_more : (image : List ℕ) (n : ℕ) → stored image (steps (n + 1) f) ≡ put (stored image (steps n f)) (f n)
  unfolding steps
  stored_more image n = rw (add-one n) (stored_snoc image (steps n f) (f n))

-- as many as there are: all of them
pub all_first : (p : Plan) (j : ℕ) → j ≡ stores_in p → first_stores p j ≡ stores_of p
all_first p j e = take_all j (stores_of p) (omega (arith, length-steps (store_at p) (stores_in p)))

-- ---- what differs

-- a store inside n octets at a place
abbrev pub Inside : ℕ → ℕ → Store → Type 0
Inside at n s = (at ≤ s.at) × (s.at < at + n)

put_outside : (image : List ℕ) (at n : ℕ) (s : Store) → Inside at n s → (p : ℕ) → Outside at n p → octet (put image s) p ≡ octet image p
put_outside image at n s inside p (inl before) = get_or-set_other image s.at p s.value 0 (omega arith)
put_outside image at n s inside p (inr behind) = get_or-set_other image s.at p s.value 0 (omega arith)

steps_outside : (f : ℕ → Store) (image : List ℕ) (at n count : ℕ) → ((i : ℕ) → i < count → Inside at n (f i))
    → (p : ℕ) → Outside at n p → octet (stored image (steps count f)) p ≡ octet image p
steps_outside f image at n zero inside p out = ap (λ (s : List ℕ). octet s p) (stored-none f image)
steps_outside f image at n (suc count) inside p out =
    rw (← add-one count, stored_more f image count)
    (put_outside (stored image (steps count f)) at n (f count) (inside count (omega arith)) p out
    ∙ steps_outside f image at n count (λ i h. inside i (omega arith)) p out)

pub steps_changed : (f : ℕ → Store) (image : List ℕ) (at n count : ℕ) → ((i : ℕ) → i < count → Inside at n (f i))
    → Changed image at n (stored image (steps count f))
steps_changed f image at n count inside =
    record { long = length-stored image (steps count f); outside = steps_outside f image at n count inside }

pub plan_changed : (plan : Plan) (image : List ℕ) (at n : ℕ) → ((i : ℕ) → i < stores_in plan → Inside at n (store_at plan i))
    → (j : ℕ) → Changed image at n (stored image (first_stores plan j))
plan_changed plan image at n inside j =
    rw (take_steps (store_at plan) j (stores_in plan))
    (steps_changed (store_at plan) image at n (min j (stores_in plan)) (λ i h. inside i (omega arith)))
