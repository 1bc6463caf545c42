-- A turn of a loop over the rounds.
-- Assumes nothing.
use mathlib.Core.Path.{◌≡◌}
use mathlib.Core.List.{List}
use Prim.Native.Nat.{ℕ, suc, ◌+◌, ◌-◌, ◌≤◌}
use native.Mathlib.Omega.{arith}
use Rattle.cipher.specs.Cipher.{round, rounds}

-- round n of the state that n - 1 rounds leave
pub rounds_more : (w s : List ℕ) (n : ℕ) → 1 ≤ n → rounds w (n + 1 - 1) s ≡ round w n (rounds w (n - 1) s)
unfolding rounds
rounds_more w s n h =
    let this : suc (n - 1) ≡ n = omega arith in
    let next : n + 1 - 1 ≡ suc (n - 1) = omega arith in
    rw (next, this)
