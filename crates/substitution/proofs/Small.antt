-- The S-box and the product of an octet by x are octets.
-- Assumes nothing.
use mathlib.Core.Path.{◌≡◌, refl}
use mathlib.Core.Bool.{Bool, true, false, cond}
use Prim.Native.Nat.{ℕ, zero, suc, ◌-◌, ◌*◌, ◌^◌, ◌≤◌, ◌<◌}
use native.Mathlib.Nat.{mul-le-mul_right, pow-suc}
use native.Mathlib.Omega.{arith}
use borrow.Author.Tests.{ltb-true}
use lib.Bits.{xor_lt}
use lib.Dec.{ltb, lit<}
use Rattle.octets.specs.Xor.{◌⊕◌}
use Rattle.substitution.specs.Field.{xtime}
use Rattle.substitution.specs.Sbox.{bit, affine_bit, of_bits, affine, inverse, sbox}

-- the number that n bits make
of_bits-lt : (n : ℕ) (f : ℕ → ℕ) → ((i : ℕ) → f i < 2) → of_bits n f < 2 ^ n
unfolding of_bits
of_bits-lt zero f h = lit< tt
of_bits-lt (suc n) f h =
    let low : of_bits n f < 2 ^ n = of_bits-lt n f h in
    let top : f n ≤ 1 = omega (arith, h n) in
    omega (arith, mul-le-mul_right (2 ^ n) top, pow-suc 2 n)

bit-lt : (b i : ℕ) → bit b i < 2 ^ 1
bit-lt b i = omega arith

affine_bit-lt : (b i : ℕ) → affine_bit b i < 2 ^ 1
affine_bit-lt b i = search (xor_lt, bit-lt) depth 8

pub sbox-lt : (b : ℕ) → sbox b < 256
unfolding sbox affine
sbox-lt b = of_bits-lt 8 (affine_bit (inverse b)) (affine_bit-lt (inverse b))

by-case : (b : ℕ) → b < 256 → (t : Bool) → ltb b 128 ≡ t → cond t (b * 2) ((b - 128) * 2 ⊕ 0x1b) < 256
by-case b h true e = omega (arith, ltb-true b 128 e)
by-case b h false e = xor_lt 8 ((b - 128) * 2) 0x1b (omega arith) (lit< tt)

pub xtime-lt : (b : ℕ) → b < 256 → xtime b < 256
unfolding xtime
xtime-lt b h = by-case b h (ltb b 128) refl
