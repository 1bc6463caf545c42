-- What the shut definitions of the Cipher say, for the proofs of this crate alone.
-- Assumes nothing.
use Rattle.std.specs.Prelude.{◌≡◌, refl, List, ℕ}
use Rattle.cipher.specs.SubBytes.{sub_bytes}
use Rattle.cipher.specs.ShiftRows.{shift_rows}
use Rattle.cipher.specs.AddRoundKey.{add_round_key}
use Rattle.key_schedule.specs.KeyExpansion.{key_expansion}
use Rattle.cipher.specs.Cipher.{rounds, cipher, aes256}

pub cipher-is : (w block : List ℕ) → cipher w block ≡ add_round_key w 14 (shift_rows (sub_bytes (rounds w 13 (add_round_key w 0 block))))
unfolding cipher
cipher-is w block = refl

pub aes256-is : (key block : List ℕ) → aes256 key block ≡ cipher (key_expansion key) block
unfolding aes256
aes256-is key block = refl
