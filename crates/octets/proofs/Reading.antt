-- The number that the octets at a place make: of two parts, one behind the other, and of no octets.
-- Assumes nothing.
use mathlib.Core.Path.{◌≡◌, ◌∙◌, refl, ap}
use mathlib.Core.List.{List, []}
use Prim.Native.Nat.{ℕ, zero, suc, ◌+◌, ◌*◌, ◌^◌, ◌≤◌}
use native.Mathlib.Nat.{add-zero, zero-add}
use lib.ListN.{length, drop, drop_of_length-le}
use lib.Seq.{drop-drop, get_or-drop}
use Rattle.octets.specs.Lists.{octet}
use Rattle.octets.specs.Numbers.{number, number_at}
use Rattle.octets.proofs.Numbers.{number-add}

pub number_at-add : (at a b : ℕ) (s : List ℕ) → number_at at (a + b) s ≡ number_at at a s * 256 ^ b + number_at (at + a) b s
number_at-add at a b s =
    number-add a b (drop at s) ∙ ap (λ (t : List ℕ). number_at at a s * 256 ^ b + number b t) (drop-drop a at s)

pub number_at-two : (at : ℕ) (s : List ℕ) → number_at at 2 s ≡ octet s at * 256 + octet s (at + 1)
unfolding number
number_at-two at s = rw (get_or-drop at s 0 0, get_or-drop at s 1 0, add-zero, zero-add)

number_nil : (k : ℕ) → number k [] ≡ 0
unfolding number
number_nil zero = refl
number_nil (suc k) = rw (number_nil k)

pub number_at_past : (at k : ℕ) (s : List ℕ) → length s ≤ at → number_at at k s ≡ 0
number_at_past at k s h = rw (drop_of_length-le s h) (number_nil k)
