-- The next subkey by arithmetic: the first bit of the block, as a number, times R_128 is what is added to the shifted block.
-- Assumes nothing.
use mathlib.Core.Path.{◌≡◌, refl}
use mathlib.Core.Bool.{Bool, true, false, cond}
use mathlib.Core.List.{List}
use Prim.Native.Nat.{ℕ, ◌*◌, ◌/◌, ◌<◌}
use native.Mathlib.Omega.{arith}
use borrow.Author.Tests.{ltb-true, ltb-false}
use lib.Bits.{xor_zero_r}
use lib.Dec.{ltb}
use lib.ListN.{set}
use lib.Seq.{set-get_or}
use Rattle.octets.specs.Lists.{octet, tab}
use Rattle.octets.specs.Xor.{◌⊕◌, xors}
use Rattle.subkeys.specs.Subkeys.{r128, shifted, next_subkey}

-- R_128 changes the last octet alone
last_octet : (x : List ℕ) → set (shifted x) 15 (octet (shifted x) 15 ⊕ 0x87) ≡ xors 16 (shifted x) r128
unfolding shifted tab xors r128
last_octet x = simp xor_zero_r

module _ (x : List ℕ) (small : octet x 0 < 256) where
  by-first-bit : (t : Bool) → ltb (octet x 0) 128 ≡ t → set (shifted x) 15 (octet (shifted x) 15 ⊕ octet x 0 / 128 * 0x87) ≡ cond t (shifted x) (xors 16 (shifted x) r128)
  by-first-bit true e =
      let none : octet x 0 / 128 ≡ 0 = omega (arith, ltb-true (octet x 0) 128 e) in
      rw (none, xor_zero_r) (set-get_or (shifted x) 15 0)
  by-first-bit false e =
      let one : octet x 0 / 128 ≡ 1 = omega (arith, ltb-false (octet x 0) 128 e) in
      rw one (last_octet x)

  pub reduced : set (shifted x) 15 (octet (shifted x) 15 ⊕ octet x 0 / 128 * 0x87) ≡ next_subkey x
  unfolding next_subkey
  reduced = by-first-bit (ltb (octet x 0) 128) refl
