-- What the shut definition of the decryption says, for the proofs of this crate alone.
-- Assumes nothing.
use Rattle.std.specs.Prelude.{◌≡◌, refl, List, ℕ}
use Rattle.gctr.specs.Increment.{inc32}
use Rattle.gctr.specs.Gctr.{gctr}
use Rattle.gcm.specs.Encryption.{j0}
use Rattle.gcm.specs.Decryption.{plaintext_under}

pub plaintext-is : (w iv c : List ℕ) → plaintext_under w iv c ≡ gctr w (inc32 (j0 iv)) c
unfolding plaintext_under
plaintext-is w iv c = refl
