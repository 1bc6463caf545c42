-- What the mask makes of each octet, and that masking the front of a list is the front of the masked list.
-- Assumes nothing.
use mathlib.Core.Path.{◌≡◌, refl, sym, ap}
use mathlib.Core.List.{List, [], ◌∷◌}
use Prim.Native.Nat.{ℕ, zero, suc, ◌≤◌, ◌<◌}
use native.Mathlib.Omega.{arith}
use lib.Bits.{bit_and, and_zero_l}
use lib.ListN.{length, take}
use Rattle.octets.specs.Lists.{octet}
use Rattle.masking.specs.Masked.{masked}

pub octet_reached : (mask s : List ℕ) (i : ℕ) → i < length mask → octet (masked mask s) i ≡ bit_and (octet s i) (octet mask i)
unfolding masked
octet_reached [] s i h = absurd (omega arith)
octet_reached (m ∷ mask) [] i h = sym (and_zero_l (octet (m ∷ mask) i))
octet_reached (m ∷ mask) (x ∷ s) zero h = refl
octet_reached (m ∷ mask) (x ∷ s) (suc i) h = octet_reached mask s i (omega arith)

pub octet_beyond : (mask s : List ℕ) (i : ℕ) → length mask ≤ i → octet (masked mask s) i ≡ octet s i
unfolding masked
octet_beyond [] s i h = refl
octet_beyond (m ∷ mask) [] i h = refl
octet_beyond (m ∷ mask) (x ∷ s) zero h = absurd (omega arith)
octet_beyond (m ∷ mask) (x ∷ s) (suc i) h = octet_beyond mask s i (omega arith)

pub length-masked : (mask s : List ℕ) → length (masked mask s) ≡ length s
unfolding masked
length-masked [] s = refl
length-masked (m ∷ mask) [] = refl
length-masked (m ∷ mask) (x ∷ s) = ap suc (length-masked mask s)

pub masked-take : (mask s : List ℕ) (n : ℕ) → masked mask (take n s) ≡ take n (masked mask s)
unfolding masked
masked-take [] s n = refl
masked-take (m ∷ mask) s zero = refl
masked-take (m ∷ mask) [] (suc n) = refl
masked-take (m ∷ mask) (x ∷ s) (suc n) = ap (λ (r : List ℕ). bit_and x m ∷ r) (masked-take mask s n)
