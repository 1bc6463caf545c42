-- FIPS 197, 5.1: the Cipher, figure 5 with Nr = 14, and AES-256.
-- `cipher` and `aes256` are shut: a layer above cannot look into them, and rests on the laws of proofs/Laws alone.
-- Assumes nothing.
pub mod Opened
use Rattle.std.specs.Prelude.{ℕ, zero, suc, List}
use Rattle.cipher.specs.SubBytes.{sub_bytes}
use Rattle.cipher.specs.ShiftRows.{shift_rows}
use Rattle.cipher.specs.MixColumns.{mix_columns}
use Rattle.cipher.specs.AddRoundKey.{add_round_key}
use Rattle.key_schedule.specs.KeyExpansion.{key_expansion}

-- one round under the expanded key w, on the state s
unfoldable pub round : List ℕ → ℕ → List ℕ → List ℕ
round w n s = add_round_key w n (mix_columns (shift_rows (sub_bytes s)))

-- the rounds 1 to n
unfoldable pub rounds : List ℕ → ℕ → List ℕ → List ℕ
rounds w zero s = s
rounds w (suc n) s = round w (suc n) (rounds w n s)

-- the block under the expanded key w; the last round has no MixColumns
pub cipher : List ℕ → List ℕ → List ℕ
cipher w block = add_round_key w 14 (shift_rows (sub_bytes (rounds w 13 (add_round_key w 0 block))))

-- AES-256 of the block under the key
pub aes256 : List ℕ → List ℕ → List ℕ
aes256 key block = cipher (key_expansion key) block
