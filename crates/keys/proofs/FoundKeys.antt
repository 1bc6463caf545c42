-- What a search by ID finds: a key that has it, where there is one. In a key part that keeps the rules the IDs rise, so no other has it.
-- Assumes nothing.
use mathlib.Core.Path.{◌≡◌, refl}
use mathlib.Core.Bool.{Bool, true, false, cond}
use mathlib.Core.List.{List}
use Prim.Native.Nat.{ℕ, zero, suc, ◌+◌, ◌-◌, ◌≤◌, ◌<◌}
use native.Mathlib.Decide.{dec_lt}
use native.Mathlib.Omega.{arith}
use borrow.Author.Tests.{eqb-true, eqb-false, leb-true, ltb-true}
use lib.Dec.{eqb, leb, eqb-suc-zero}
use Rattle.octets.specs.Lists.{all}
use Rattle.octets.proofs.Alls.{and_left, and_right, all-at}
use Rattle.keys.specs.Keys.{most_keys, deactivated, key_id_at, key_state_at, key_from, key_index, key_ok, key_part_ok}

-- ---- the search

module _ (image : List ℕ) (at id : ℕ) where
  -- it ends inside, at a key with the ID, or behind
  from-most : (k n : ℕ) → key_from image at id k n ≤ k + n
  unfolding key_from
  from-most k zero = omega arith
  from-most k (suc n) = of (eqb (key_id_at image at k) id) (from-most (k + 1) n)
    where
      of : (t : Bool) → key_from image at id (k + 1) n ≤ k + 1 + n → cond t k (key_from image at id (k + 1) n) ≤ k + suc n
      of true h = omega arith
      of false h = omega arith

  from_has : (k n : ℕ) → key_from image at id k n < k + n → key_id_at image at (key_from image at id k n) ≡ id
  unfolding key_from
  from_has k zero h = absurd (omega arith)
  from_has k (suc n) h = of (eqb (key_id_at image at k) id) refl h (from_has (k + 1) n)
    where
      of : (t : Bool) → eqb (key_id_at image at k) id ≡ t → cond t k (key_from image at id (k + 1) n) < k + suc n
          → (key_from image at id (k + 1) n < k + 1 + n → key_id_at image at (key_from image at id (k + 1) n) ≡ id)
          → key_id_at image at (cond t k (key_from image at id (k + 1) n)) ≡ id
      of true e h behind = eqb-true (key_id_at image at k) id e
      of false e h behind = behind (omega arith)

  -- a key with the ID is not passed
  from-before : (k n j : ℕ) → k ≤ j → j < k + n → key_id_at image at j ≡ id → key_from image at id k n ≤ j
  unfolding key_from
  from-before k zero j l h e = absurd (omega arith)
  from-before k (suc n) j l h e = of (eqb (key_id_at image at k) id) refl (dec_lt k j) (λ m. from-before (k + 1) n j m (omega arith) e)
    where
      of : (t : Bool) → eqb (key_id_at image at k) id ≡ t → Dec (k < j) → (k + 1 ≤ j → key_from image at id (k + 1) n ≤ j)
          → cond t k (key_from image at id (k + 1) n) ≤ j
      of true q d behind = l
      of false q (yes m) behind = behind (omega arith)
      of false q (no g) behind =
          let here : k ≡ j = omega arith in
          absurd (eqb-false (key_id_at image at k) id q (rw here e))

  module _ (count : ℕ) where
    pub index_most : key_index image at count id ≤ count
    unfolding key_index
    index_most = omega (arith, from-most 0 count)

    pub index_has : key_index image at count id < count → key_id_at image at (key_index image at count id) ≡ id
    unfolding key_index
    index_has h = from_has 0 count (omega arith)

    index_before : (j : ℕ) → j < count → key_id_at image at j ≡ id → key_index image at count id ≤ j
    unfolding key_index
    index_before j h e = from-before 0 count j (omega arith) (omega arith) e

-- ---- the rules as facts

pub record ValidKeys (image : List ℕ) (at count : ℕ) : Type 0 where
  pub few : count ≤ most_keys
  pub state : (k : ℕ) → k < count → key_state_at image at k ≤ deactivated
  pub rises : (k : ℕ) → suc k < count → key_id_at image at k < key_id_at image at (suc k)

module _ (image : List ℕ) (at count : ℕ) where
  id_next : (k : ℕ) → key_ok image at (suc k) ≡ true → key_id_at image at k < key_id_at image at (suc k)
  unfolding key_ok
  id_next k e =
      let here : suc k - 1 ≡ k = omega arith in
      let t = rw (eqb-suc-zero k, here) at (and_right (leb (key_state_at image at (suc k)) deactivated) _ e) in
      ltb-true (key_id_at image at k) (key_id_at image at (suc k)) t

  state-small : (k : ℕ) → key_ok image at k ≡ true → key_state_at image at k ≤ deactivated
  unfolding key_ok
  state-small k e = leb-true (key_state_at image at k) deactivated (search and_left)

  pub valid-keys : key_part_ok image at count ≡ true → ValidKeys image at count
  unfolding key_part_ok
  valid-keys e =
      let every : all count (key_ok image at) ≡ true = search and_right in
      record {
        few = leb-true count most_keys (search and_left);
        state = λ k h. state-small k (all-at count (key_ok image at) every k h);
        rises = λ k h. id_next k (all-at count (key_ok image at) every (suc k) h);
      }

  module _ (v : ValidKeys image at count) where
    -- a later key has a greater ID
    id_rises_lem : (i j : ℕ) → i < j → j < count → key_id_at image at i < key_id_at image at j
    id_rises_lem i zero l h = absurd (omega arith)
    id_rises_lem i (suc j) l h = by_place (dec_lt i j) (λ m. id_rises_lem i j m (omega arith))
      where
        by_place : Dec (i < j) → (i < j → key_id_at image at i < key_id_at image at j) → key_id_at image at i < key_id_at image at (suc j)
        by_place (yes m) before = omega (arith, before m, v.rises j h)
        by_place (no g) before = let e : i ≡ j = omega arith in rw e (v.rises j h)

    -- so the search for the ID of a key finds that key
    pub index_of : (j : ℕ) → j < count → key_index image at count (key_id_at image at j) ≡ j
    index_of j h = by_place (dec_lt i j)
      where
        id : ℕ
        id = key_id_at image at j

        i : ℕ
        i = key_index image at count id

        most : i ≤ j
        most = index_before image at id count j h refl

        by_place : Dec (i < j) → i ≡ j
        by_place (yes l) = absurd (omega (arith, id_rises_lem i j l h, index_has image at id count (omega (arith, most))))
        by_place (no g) = omega (arith, most)
