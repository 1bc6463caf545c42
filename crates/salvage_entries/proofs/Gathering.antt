-- The kept entries, as a loop gathers them at the front of a list: before the first turn, an entry that is kept, and one that is not.
-- Assumes nothing.
use mathlib.Core.Path.{◌≡◌, refl, ap, ◌∙◌}
use mathlib.Core.Bool.{true, false}
use mathlib.Core.List.{List, [], ◌∷◌, ◌++◌}
use Prim.Native.Nat.{ℕ, ◌+◌, ◌≤◌, ◌<◌}
use native.Mathlib.Numerals.{add-one}
use native.Mathlib.Omega.{arith}
use lib.ListN.{length, set, take, length-set}
use lib.Seq.{take-suc-set}
use Rattle.salvage_entries.specs.Kept.{keepable, kept_among}

-- those of the first i entries
pub record Gathered (x : List ℕ) (i : ℕ) (list : List ℕ) (count size : ℕ) : Type 0 where
  pub few : count ≤ i
  pub long : length list ≡ size
  pub front : take count list ≡ kept_among x i

module _ {x list : List ℕ} {size : ℕ} where
  pub gathered_none : length list ≡ size → Gathered x 0 list 0 size
  unfolding kept_among
  gathered_none e = record { few = omega arith; long = e; front = refl }

  pub gathered_more : {i count : ℕ} → i < size → keepable x (take count list) i ≡ true → Gathered x i list count size
      → Gathered x (i + 1) (set list count i) (count + 1) size
  unfolding kept_among
  gathered_more {i} {count} room k g =
      let kept : keepable x (kept_among x i) i ≡ true = rw g.front at k in
      record {
        few = omega arith;
        long = length-set list count i ∙ g.long;
        front =
            rw (add-one, add-one, kept)
            (take-suc-set list count i (omega arith) ∙ ap (λ (l : List ℕ). l ++ (i ∷ [])) g.front);
      }

  pub gathered_same : {i count : ℕ} → keepable x (take count list) i ≡ false → Gathered x i list count size
      → Gathered x (i + 1) list count size
  unfolding kept_among
  gathered_same {i} {count} k g =
      let dropped : keepable x (kept_among x i) i ≡ false = rw g.front at k in
      record { few = omega arith; long = g.long; front = rw (add-one, dropped) g.front }
