-- Worked examples, which antt computes from the definitions: test case 2 of McGrew and Viega, "The Galois/Counter Mode of Operation (GCM)".
-- Assumes nothing.
use mathlib.Core.Path.{◌≡◌, refl}
use mathlib.Core.List.{◌++◌}
use Rattle.octets.specs.Numbers.{number, bytes}
use Rattle.ghash.specs.Product.{next_v, product_rounds, ◌•◌}
use Rattle.ghash.specs.Ghash.{ghash_from, ghash}

-- X_1, the product of the ciphertext and H
product : 0x0388dace60b6a392f328c2b971b2fe78 • 0x66e94bd4ef8a2c3b884cfa59ca342b2e ≡ 0x5e2ec746917062882c85b0685353deb7
unfolding ◌•◌ product_rounds next_v
product = refl

-- GHASH over the ciphertext and the two lengths
hashed : ghash 0x66e94bd4ef8a2c3b884cfa59ca342b2e (bytes 16 0x0388dace60b6a392f328c2b971b2fe78 ++ bytes 8 0 ++ bytes 8 128)
    ≡ 0xf38cbb1ad69223dcc3457ae5b6b0f885
unfolding ghash ghash_from ◌•◌ product_rounds next_v number bytes
hashed = refl
