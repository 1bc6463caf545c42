-- Lists of octets that differ at most in a few octets at one place: whatever is read elsewhere is the same in both.
-- Assumes nothing.
use mathlib.Core.Path.{◌≡◌}
use mathlib.Core.Logic.{◌⊎◌, inl, inr}
use mathlib.Core.List.{List}
use Prim.Native.Nat.{ℕ, ◌+◌, ◌≤◌, ◌<◌}
use native.Mathlib.Omega.{arith}
use lib.ListN.{length}
use Rattle.octets.specs.Lists.{octet, part}
use Rattle.octets.specs.Numbers.{number_at}
use Rattle.octets.proofs.Numbers.{number_at-same}
use Rattle.octets.proofs.Parts.{part_same}

-- the k octets at p all stand before the n octets at a place, or all behind them
abbrev pub Apart : ℕ → ℕ → ℕ → ℕ → Type 0
Apart at n p k = (p + k ≤ at) ⊎ (at + n ≤ p)

-- one octet does
abbrev pub Outside : ℕ → ℕ → ℕ → Type 0
Outside at n p = (p < at) ⊎ (at + n ≤ p)

-- `after` is as long as the list, and differs from it at most in the n octets at a place
pub record Changed (list : List ℕ) (at n : ℕ) (after : List ℕ) : Type 0 where
  pub long : length after ≡ length list
  pub outside : (p : ℕ) → Outside at n p → octet after p ≡ octet list p

each : (at n p k i : ℕ) → i < k → Apart at n p k → Outside at n (p + i)
each at n p k i h (inl l) = inl (omega arith)
each at n p k i h (inr l) = inr (omega arith)

module _ {list after : List ℕ} {at n : ℕ} (only : Changed list at n after) where
  -- a number of k octets, and the octets themselves
  pub same_number : (p k : ℕ) → Apart at n p k → number_at p k after ≡ number_at p k list
  same_number p k apart = number_at-same p k after list (λ i h. only.outside (p + i) (each at n p k i h apart))

  pub same-part : (p k : ℕ) → Apart at n p k → part p k after ≡ part p k list
  same-part p k apart = part_same p k after list (λ i h. only.outside (p + i) (each at n p k i h apart))
