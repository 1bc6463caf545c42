-- SP 800-38D, 7.1: authenticated encryption, Algorithm 4, with an IV of 96 bits and a tag of 128 bits. All that it needs of the key K is
-- CIPH_K, so it is stated under an expanded key w; under K it is what it is under the expansion of K.
-- `ciphertext_under` and `tag_under` are shut: a layer above cannot look into them, and rests on the laws of proofs/Laws alone.
-- Assumes nothing.
pub mod Opened
use Rattle.std.specs.Prelude.{ℕ, List, ◌++◌}
use Rattle.octets.specs.Numbers.{number, bytes}
use Rattle.key_schedule.specs.KeyExpansion.{key_expansion}
use Rattle.ghash.specs.Ghash.{ghash}
use Rattle.ghash.specs.Input.{hash_input}
use Rattle.gctr.specs.Increment.{inc32}
use Rattle.gctr.specs.Gctr.{ciph, gctr}

-- step 1: H = CIPH_K(0^128)
unfoldable pub hash_key : List ℕ → ℕ
hash_key w = number 16 (ciph w 0)

-- step 2: J_0 = IV || 0^31 || 1
unfoldable pub j0 : List ℕ → ℕ
j0 iv = number 16 (iv ++ bytes 4 1)

-- step 3: C = GCTR_K(inc32(J_0), P)
pub ciphertext_under : List ℕ → List ℕ → List ℕ → List ℕ
ciphertext_under w iv p = gctr w (inc32 (j0 iv)) p

-- steps 4 and 5: S = GHASH_H(A || 0^v || C || 0^u || [len(A)]_64 || [len(C)]_64)
unfoldable pub authenticated : List ℕ → List ℕ → List ℕ → ℕ
authenticated w a c = ghash (hash_key w) (hash_input a c)

-- step 6: T = MSB_128(GCTR_K(J_0, S)), which is all of it
pub tag_under : List ℕ → List ℕ → List ℕ → List ℕ → List ℕ
tag_under w iv a c = gctr w (j0 iv) (bytes 16 (authenticated w a c))

-- under a key
abbrev pub ciphertext : List ℕ → List ℕ → List ℕ → List ℕ
ciphertext key iv p = ciphertext_under (key_expansion key) iv p

abbrev pub tag : List ℕ → List ℕ → List ℕ → List ℕ → List ℕ
tag key iv a c = tag_under (key_expansion key) iv a c
