-- SP 800-38D, 7.2: authenticated decryption, Algorithm 5, with an IV of 96 bits and a tag of 128 bits. The plaintext is given only where
-- the tag T is the T' that step 7 makes, which is the tag of the encryption.
-- `plaintext_under` is shut: a layer above cannot look into it, and rests on the laws of proofs/Laws alone.
-- Assumes nothing.
pub mod Opened
use Rattle.std.specs.Prelude.{ℕ, List}
use Rattle.key_schedule.specs.KeyExpansion.{key_expansion}
use Rattle.gctr.specs.Increment.{inc32}
use Rattle.gctr.specs.Gctr.{gctr}
use Rattle.gcm.specs.Encryption.{j0}

-- step 4: P = GCTR_K(inc32(J_0), C), under an expanded key w and under a key
pub plaintext_under : List ℕ → List ℕ → List ℕ → List ℕ
plaintext_under w iv c = gctr w (inc32 (j0 iv)) c

abbrev pub plaintext : List ℕ → List ℕ → List ℕ → List ℕ
plaintext key iv c = plaintext_under (key_expansion key) iv c
