-- Worked examples of FIPS 197, which antt computes from the definitions.
-- Assumes nothing.
use mathlib.Core.Path.{◌≡◌, refl}
use Rattle.octets.specs.Xor.{◌⊕◌}
use Rattle.substitution.specs.Field.{xtime, mul_bits, ◌•◌}
use Rattle.substitution.specs.Sbox.{squares, inverse, of_bits, affine, sbox}

-- 4.1
sum : 0x57 ⊕ 0x83 ≡ 0xd4
sum = refl

-- 4.2
product : 0x57 • 0x83 ≡ 0xc1
unfolding ◌•◌ mul_bits xtime
product = refl

-- 4.2.1
product-by_x : 0x57 • 0x13 ≡ 0xfe
unfolding ◌•◌ mul_bits xtime
product-by_x = refl

-- 5.1.1
substituted : sbox 0x53 ≡ 0xed
unfolding sbox affine of_bits inverse squares ◌•◌ mul_bits xtime
substituted = refl
