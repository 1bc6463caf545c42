-- What the layers above rest on: AES-256 under an expanded key, the rounds that it is made of, the length of an enciphered block, and that its
-- numbers are octets.
-- Assumes nothing.
use mathlib.Core.Path.{◌≡◌, ◌∙◌, sym, ap}
use mathlib.Core.List.{List}
use Prim.Native.Nat.{ℕ}
use lib.ListN.{length}
use Rattle.octets.specs.Lists.{Octets}
use Rattle.octets.proofs.Rules.{length-tab}
use Rattle.key_schedule.specs.KeyExpansion.{key_expansion}
use Rattle.cipher.specs.AddRoundKey.{add_round_key}
use Rattle.cipher.specs.ShiftRows.{shift_rows}
use Rattle.cipher.specs.SubBytes.{sub_bytes}
use Rattle.cipher.specs.Cipher.{rounds, cipher, aes256}
use Rattle.cipher.specs.Cipher.Opened.{cipher-is, aes256-is}
use Rattle.cipher.proofs.Small.{octets-sub_bytes, octets-shift_rows, octets-add_round_key}

-- a key is expanded once, for any number of blocks
pub under_expanded : (key block : List ℕ) → cipher (key_expansion key) block ≡ aes256 key block
under_expanded key block = sym (aes256-is key block)

-- for another engine: the rounds of figure 5
pub cipher-by-rounds : (w block : List ℕ) → cipher w block ≡ add_round_key w 14 (shift_rows (sub_bytes (rounds w 13 (add_round_key w 0 block))))
cipher-by-rounds w block = cipher-is w block

pub length-cipher : (w block : List ℕ) → length (cipher w block) ≡ 16
unfolding add_round_key
length-cipher w block = ap length (cipher-is w block) ∙ length-tab 16 _

pub octets-cipher : (w block : List ℕ) → Octets w → Octets (cipher w block)
octets-cipher w block hw = rw cipher-is (octets-add_round_key w 14 _ hw (octets-shift_rows _ (octets-sub_bytes _)))
