-- NIST SP 800-38B, 6.2: the MAC of a message M under a key K, for AES-256 and Tlen = 128. The bit length Mlen is eight times the number
-- of octets of M, and a block has 16 of them. All that it needs of K is CIPH_K, so it is stated under an expanded key w; under K it is what
-- it is under the expansion of K.
-- `cmac_under` is shut: a layer above cannot look into it, and rests on the laws of proofs/Laws alone.
-- Assumes nothing.
pub mod Opened
use Rattle.std.specs.Prelude.{ℕ, zero, suc, List, length}
use Rattle.octets.specs.Xor.{xors}
use Rattle.key_schedule.specs.KeyExpansion.{key_expansion}
use Rattle.cipher.specs.Cipher.{cipher}
use Rattle.subkeys.specs.Subkeys.{zeros, k1, k2}
use Rattle.message_blocks.specs.Blocks.{block_count, block}

-- step 1, the subkeys; steps 5 and 6: C_0 = 0^128, and C_i = CIPH_K(C_(i-1) xor M_i)
unfoldable pub chain : List ℕ → List ℕ → ℕ → List ℕ
chain w m zero = zeros 16
chain w m (suc i) = cipher w (xors 16 (chain w m i) (block (k1 w) (k2 w) m (suc i)))

-- step 7: T = C_n
pub cmac_under : List ℕ → List ℕ → List ℕ
cmac_under w m = chain w m (block_count (length m))

-- under a key
abbrev pub cmac : List ℕ → List ℕ → List ℕ
cmac key m = cmac_under (key_expansion key) m
