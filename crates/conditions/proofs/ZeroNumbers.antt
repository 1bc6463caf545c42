-- A number in three words is 0 if and only if each of them is.
-- Assumes nothing.
use Prim.Native.Nat.{ℕ, zero, suc, ◌+◌, ◌*◌}
use mathlib.Core.Path.{◌≡◌, ap}
use mathlib.Core.Bool.{◌&&◌}
use native.Mathlib.Nat.{zero-add}
use native.Mathlib.Omega.{arith}
use borrow.Author.Tests.{ne_eqb}
use lib.Dec.{eqb}

pub all-zero : (a b c : ℕ) → eqb ((a * 4294967296 + b) * 4294967296 + c) 0 ≡ ((eqb a 0 && eqb b 0) && eqb c 0)
all-zero zero zero c = ap (λ (x : ℕ). eqb x 0) (zero-add c)
all-zero zero (suc b) c =
    rw (ne_eqb ((0 * 4294967296 + suc b) * 4294967296 + c) 0 (λ e. omega arith), ne_eqb (suc b) 0 (λ e. omega arith))
all-zero (suc a) b c =
    rw (ne_eqb ((suc a * 4294967296 + b) * 4294967296 + c) 0 (λ e. omega arith), ne_eqb (suc a) 0 (λ e. omega arith))
