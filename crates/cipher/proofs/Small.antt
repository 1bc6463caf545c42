-- Every step of the cipher gives octets.
-- Assumes nothing.
use mathlib.Core.List.{List}
use Prim.Native.Nat.{ℕ, ◌+◌, ◌*◌, ◌/◌, ◌%◌}
use lib.Bits.{xor_lt}
use Rattle.octets.specs.Lists.{Octets}
use Rattle.octets.proofs.Bounds.{octets-tab}
use Rattle.substitution.proofs.Small.{sbox-lt}
use Rattle.cipher.specs.State.{at}
use Rattle.cipher.specs.SubBytes.{sub_bytes}
use Rattle.cipher.specs.ShiftRows.{shift_rows}
use Rattle.cipher.specs.AddRoundKey.{add_round_key}

pub octets-sub_bytes : (s : List ℕ) → Octets (sub_bytes s)
unfolding sub_bytes
octets-sub_bytes s = octets-tab 16 _ (λ i h. sbox-lt (at s (i % 4) (i / 4)))

pub octets-shift_rows : (s : List ℕ) → Octets s → Octets (shift_rows s)
unfolding shift_rows
octets-shift_rows s hs = octets-tab 16 _ (λ i h. hs (i % 4 + 4 * ((i / 4 + i % 4) % 4)))

pub octets-add_round_key : (w : List ℕ) (n : ℕ) (s : List ℕ) → Octets w → Octets s → Octets (add_round_key w n s)
unfolding add_round_key
octets-add_round_key w n s hw hs =
    octets-tab 16 _ (λ i h. xor_lt 8 (at s (i % 4) (i / 4)) (at w (i % 4) (4 * n + i / 4)) (hs _) (hw _))
