-- What the shut definitions of the encryption say, for the proofs of this crate alone.
-- Assumes nothing.
use Rattle.std.specs.Prelude.{◌≡◌, refl, List, ℕ}
use Rattle.octets.specs.Numbers.{bytes}
use Rattle.gctr.specs.Increment.{inc32}
use Rattle.gctr.specs.Gctr.{gctr}
use Rattle.gcm.specs.Encryption.{j0, ciphertext_under, authenticated, tag_under}

pub ciphertext-is : (w iv p : List ℕ) → ciphertext_under w iv p ≡ gctr w (inc32 (j0 iv)) p
unfolding ciphertext_under
ciphertext-is w iv p = refl

pub tag_is : (w iv a c : List ℕ) → tag_under w iv a c ≡ gctr w (j0 iv) (bytes 16 (authenticated w a c))
unfolding tag_under
tag_is w iv a c = refl
