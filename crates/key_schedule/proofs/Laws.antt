-- What the layers above rest on: the expansion of a key of octets is octets, as every step gives octets.
-- Assumes nothing.
use mathlib.Core.List.{List, [], ◌∷◌}
use Prim.Native.Nat.{ℕ, zero, suc, ◌+◌, ◌-◌, ◌*◌, ◌/◌, ◌%◌, ◌<◌}
use lib.Dec.{eqb, lit<}
use Rattle.octets.specs.Lists.{octet, Octets}
use Rattle.octets.proofs.Bounds.{octets_nil, octets_cons, octets-append, octets-cond, octets-tab, octets-xors}
use Rattle.substitution.proofs.Small.{sbox-lt, xtime-lt}
use Rattle.key_schedule.specs.KeyExpansion.Opened.{key_expansion-is}
use Rattle.key_schedule.specs.KeyExpansion.{word, sub_word, rot_word, round_constant, rcon, temp, next_word, expanded_by, key_expansion}

octets-sub_word : (a : List ℕ) → Octets (sub_word a)
unfolding sub_word
octets-sub_word a = octets-tab 4 _ (λ j h. sbox-lt (octet a j))

octets-word : (w : List ℕ) (i : ℕ) → Octets w → Octets (word w i)
octets-word w i hw = octets-tab 4 _ (λ j h. hw (j + 4 * i))

round_constant-lt : (n : ℕ) → round_constant n < 256
unfolding round_constant
round_constant-lt zero = lit< tt
round_constant-lt (suc n) = xtime-lt (round_constant n) (round_constant-lt n)

octets-rcon : (j : ℕ) → Octets (rcon j)
unfolding rcon
octets-rcon j =
    let zero-last : Octets (0 ∷ []) = octets_cons 0 [] (lit< tt) octets_nil in
    let zeros : Octets (0 ∷ 0 ∷ 0 ∷ []) = octets_cons 0 (0 ∷ 0 ∷ []) (lit< tt) (octets_cons 0 (0 ∷ []) (lit< tt) zero-last) in
    octets_cons (round_constant (j - 1)) (0 ∷ 0 ∷ 0 ∷ []) (round_constant-lt (j - 1)) zeros

octets-temp : (w : List ℕ) (i : ℕ) → Octets w → Octets (temp w i)
unfolding temp
octets-temp w i hw =
    octets-cond (eqb (i % 8) 0) _ _
    (octets-xors 4 (sub_word (rot_word (word w (i - 1)))) (rcon (i / 8)) (octets-sub_word (rot_word (word w (i - 1)))) (octets-rcon (i / 8)))
    (octets-cond (eqb (i % 8) 4) _ _ (octets-sub_word (word w (i - 1))) (octets-word w (i - 1) hw))

octets-expanded_by : (n : ℕ) (key : List ℕ) → Octets key → Octets (expanded_by n key)
unfolding expanded_by next_word
octets-expanded_by zero key hk = hk
octets-expanded_by (suc n) key hk =
    let w : List ℕ = expanded_by n key in
    let hw : Octets w = octets-expanded_by n key hk in
    octets-append w (next_word w (8 + n)) hw
    (octets-xors 4 (word w (8 + n - 8)) (temp w (8 + n)) (octets-word w (8 + n - 8) hw) (octets-temp w (8 + n) hw))

pub octets-key_expansion : (key : List ℕ) → Octets key → Octets (key_expansion key)
octets-key_expansion key hk = rw key_expansion-is (octets-expanded_by 52 key hk)
