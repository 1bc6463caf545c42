-- The window's test in two parts of a number: with a multiple of 2^32 in it a number is above the greatest, and without one it is its lower
-- part.
-- Assumes nothing.
use Prim.Native.Nat.{ℕ, zero, suc, ◌+◌, ◌*◌, ◌<◌}
use mathlib.Core.Path.{◌≡◌}
use mathlib.Core.Bool.{true, false, ◌&&◌, and-true, and-false}
use native.Mathlib.Nat.{zero-add, zero-mul, suc-mul}
use native.Mathlib.Omega.{arith}
use borrow.Author.Tests.{le-leb, lt-leb, ne_eqb}
use lib.Dec.{eqb, leb, ltb}
use Rattle.numbers.specs.Numbers.{accepts}
use Rattle.numbers.proofs.Agreement.{accepted}

pub accepts_parts : (last window above n : ℕ) → n < 4294967296
    → ((eqb above 0 && ltb last n) && leb n (last + window)) ≡ accepts last window (above * 4294967296 + n)
accepts_parts last window zero n h =
    let small : leb n 4294967295 ≡ true = le-leb n 4294967295 (omega arith) in
    rw (zero-mul, zero-add, small, and-true)
accepts_parts last window (suc above) n h =
    let many : ℕ = suc above * 4294967296 + n in
    let more : 4294967295 < many = rw suc-mul (omega arith) in
    let great : leb many 4294967295 ≡ false = lt-leb many 4294967295 more in
    rw (ne_eqb (suc above) 0 (omega arith), great, and-false (ltb last many && leb many (last + window)))

-- an accepted number has no multiple of 2^32 in it
pub accepted_low : (last window above n : ℕ) → accepts last window (above * 4294967296 + n) ≡ true → above * 4294967296 + n ≡ n
accepted_low last window above n h = let a = accepted last window (above * 4294967296 + n) h in omega (arith, a.fits)
