-- A count up to a bound: below the bound it is the count, and from there on the bound.
-- Assumes nothing.
use mathlib.Core.Path.{◌≡◌}
use mathlib.Core.Bool.{cond}
use Prim.Native.Nat.{ℕ, ◌≤◌, ◌<◌}
use borrow.Author.Tests.{lt-ltb, le-ltb}
use lib.Dec.{ltb}

pub below : (m n : ℕ) → n < m → cond (ltb n m) n m ≡ n
below m n h = rw (lt-ltb n m h)

pub above : (m n : ℕ) → m ≤ n → cond (ltb n m) n m ≡ m
above m n h = rw (le-ltb n m h)
