-- The places of a state.
-- Assumes nothing.
use mathlib.Core.Path.{◌≡◌}
use Prim.Native.Nat.{ℕ, ◌+◌, ◌*◌, ◌/◌, ◌%◌}
use native.Mathlib.Omega.{arith}

-- octet i is at row i % 4 and column i / 4
pub cell_at : (i : ℕ) → i ≡ i % 4 + 4 * (i / 4)
cell_at i = omega arith

-- octet i of round key n
pub round-key-at : (n i : ℕ) → 16 * n + i ≡ i % 4 + 4 * (4 * n + i / 4)
round-key-at n i = omega arith
