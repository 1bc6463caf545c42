-- The octets from one place to another, as a part that is lent and as the definitions cut it.
-- Assumes nothing.
use Prim.Native.Nat.{ℕ, zero, suc, ◌-◌}
use mathlib.Core.Path.{◌≡◌, refl}
use mathlib.Core.List.{List, [], ◌∷◌}
use native.Mathlib.Nat.{sub-zero, zero-sub, suc-sub-suc}
use lib.ListN.{take, drop}
use lib.Seq.{slice}

take_nil : (n : ℕ) → take {A = ℕ} n [] ≡ []
take_nil zero = refl
take_nil (suc n) = refl

pub slice_as_part : (a b : ℕ) (s : List ℕ) → take (b - a) (drop a s) ≡ slice a b s
slice_as_part zero b s = rw sub-zero
slice_as_part (suc a) zero s = rw zero-sub
slice_as_part (suc a) (suc b) [] = take_nil (suc b - suc a)
slice_as_part (suc a) (suc b) (x ∷ s) = rw suc-sub-suc (slice_as_part a b s)
