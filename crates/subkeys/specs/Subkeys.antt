-- NIST SP 800-38B, 6.1: the subkeys K1 and K2 of a key K, for AES-256: CIPH_K is `cipher w` for the expansion w of K, and a block has
-- b = 128 bits. A block is kept as its sixteen octets, the first bit of the block being the highest bit of the first octet.
-- Assumes nothing.
use Rattle.std.specs.Prelude.{ℕ, ◌+◌, ◌*◌, ◌/◌, ◌%◌, cond, List, [], ◌∷◌, ◌++◌, ltb}
use Rattle.octets.specs.Lists.{octet, tab}
use Rattle.octets.specs.Xor.{xors}
use Rattle.cipher.specs.Cipher.{cipher}

-- n octets of zeros, 0^(8n)
abbrev pub zeros : ℕ → List ℕ
zeros n = tab n (λ i. 0)

-- 5.3: R_128, 0^120 10000111
unfoldable pub r128 : List ℕ
r128 = zeros 15 ++ (0b10000111 ∷ [])

-- X << 1: each octet moves one bit to the left and takes the first bit of the next; the first bit of all is lost and a 0 comes in at the end
unfoldable pub shifted : List ℕ → List ℕ
shifted x = tab 16 (λ i. octet x i * 2 % 256 + octet x (i + 1) / 128)

-- what steps 2 and 3 make of a block X: X << 1 if MSB_1(X) = 0, and (X << 1) xor R_128 if not
unfoldable pub next_subkey : List ℕ → List ℕ
next_subkey x = cond (ltb (octet x 0) 128) (shifted x) (xors 16 (shifted x) r128)

-- step 1: L, the block of zeros under the cipher, CIPH_K(0^128)
unfoldable pub ciphered : List ℕ → List ℕ
ciphered w = cipher w (zeros 16)

-- step 2: K1
unfoldable pub k1 : List ℕ → List ℕ
k1 w = next_subkey (ciphered w)

-- step 3: K2
unfoldable pub k2 : List ℕ → List ℕ
k2 w = next_subkey (k1 w)
