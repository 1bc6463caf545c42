-- The steps of the MAC on plain lists, from what each call gives: the subkeys under the expanded key w, one turn of the chain, its end, and
-- the MAC under the expansion of a key.
-- Assumes nothing.
use mathlib.Core.Path.{◌≡◌}
use mathlib.Core.Bool.{Bool}
use mathlib.Core.List.{List, ◌++◌}
use Prim.Native.Nat.{ℕ, ◌+◌}
use native.Mathlib.Numerals.{add-one}
use lib.ListN.{length, length-append}
use Rattle.octets.specs.Same.{same}
use Rattle.octets.specs.Xor.{xors}
use Rattle.key_schedule.specs.KeyExpansion.{key_expansion}
use Rattle.cipher.specs.Cipher.{cipher}
use Rattle.subkeys.specs.Subkeys.{zeros, next_subkey, ciphered, k1, k2}
use Rattle.message_blocks.specs.Blocks.{block_count, block}
use Rattle.cmac.specs.Mac.{chain, cmac_under, cmac}
use Rattle.cmac.specs.Mac.Opened.{cmac-is}

pub first-is : (w : List ℕ) {l first : List ℕ} → l ≡ cipher w (zeros 16) → first ≡ next_subkey l → first ≡ k1 w
unfolding k1 ciphered
first-is w l-is made = cc

pub second_is : (w : List ℕ) {first second : List ℕ} → first ≡ k1 w → second ≡ next_subkey first → second ≡ k2 w
unfolding k2
second_is w e made = cc

pub chain_more : (w m : List ℕ) (i : ℕ) {first second c b x r : List ℕ} → first ≡ k1 w → second ≡ k2 w
    → c ≡ chain w m i → b ≡ block first second m (i + 1) → x ≡ xors 16 c b → r ≡ cipher w x → r ≡ chain w m (i + 1)
unfolding chain
chain_more w m i e1 e2 before cut added made = rw add-one (cc (add-one i))

pub chain-all : (w a b : List ℕ) {c : List ℕ} {i n : ℕ} → n ≡ block_count (length a + length b) → i ≡ n → c ≡ chain w (a ++ b) i
    → c ≡ cmac_under w (a ++ b)
chain-all w a b counted end e = cc (length-append a b, cmac-is w (a ++ b))

module _ (key m : List ℕ) {w : List ℕ} (expanded : w ≡ key_expansion key) where
  pub mac-keyed : {r : List ℕ} → r ≡ cmac_under w m → r ≡ cmac key m
  mac-keyed e = cc

  pub check-keyed : (t : List ℕ) {r : Bool} → r ≡ same (cmac_under w m) t → r ≡ same (cmac key m) t
  check-keyed t e = cc
