-- FIPS 197, 5.2: KeyExpansion, figure 11 with Nk = 8, Nb = 4 and Nr = 14: the 8 words of the key, and 52 words made of them.
-- `key_expansion` is shut: a layer above cannot look into it, and rests on the law of proofs/Laws alone.
-- Assumes nothing.
pub mod Opened
use Rattle.std.specs.Prelude.{ℕ, zero, suc, ◌+◌, ◌-◌, ◌*◌, ◌/◌, ◌%◌, cond, List, [], ◌∷◌, ◌++◌, eqb}
use Rattle.octets.specs.Lists.{octet, tab}
use Rattle.octets.specs.Xor.{xors}
use Rattle.substitution.specs.Field.{xtime}
use Rattle.substitution.specs.Sbox.{sbox}

-- 3.5: word i of w, four octets
abbrev pub word : List ℕ → ℕ → List ℕ
word w i = tab 4 (λ j. octet w (j + 4 * i))

-- the S-box at each octet of a word
unfoldable pub sub_word : List ℕ → List ℕ
sub_word a = tab 4 (λ j. sbox (octet a j))

-- a_0, a_1, a_2, a_3 becomes a_1, a_2, a_3, a_0
unfoldable pub rot_word : List ℕ → List ℕ
rot_word a = tab 4 (λ j. octet a ((j + 1) % 4))

-- x^n, the first octet of Rcon[n + 1]: {01} to begin with, and each made from the one before by doubling in the field (4.2.1)
unfoldable pub round_constant : ℕ → ℕ
round_constant zero = 1
round_constant (suc n) = xtime (round_constant n)

-- the round constant word Rcon[j], which is x^(j - 1), {00}, {00}, {00}, for j from 1
unfoldable pub rcon : ℕ → List ℕ
rcon j = round_constant (j - 1) ∷ 0 ∷ 0 ∷ 0 ∷ []

-- temp, as it is when word i is made
unfoldable pub temp : List ℕ → ℕ → List ℕ
temp w i =
    cond (eqb (i % 8) 0) (xors 4 (sub_word (rot_word (word w (i - 1)))) (rcon (i / 8)))
    (cond (eqb (i % 8) 4) (sub_word (word w (i - 1)))
    (word w (i - 1)))

-- word i, from the words before it
unfoldable pub next_word : List ℕ → ℕ → List ℕ
next_word w i = xors 4 (word w (i - 8)) (temp w i)

-- the key and n words more
unfoldable pub expanded_by : ℕ → List ℕ → List ℕ
expanded_by zero key = key
expanded_by (suc n) key =
    let w : List ℕ = expanded_by n key in
    w ++ next_word w (8 + n)

pub key_expansion : List ℕ → List ℕ
key_expansion key = expanded_by 52 key
