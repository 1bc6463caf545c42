-- Words and the rows that they have: of four octets joined, of a sum, and of four words that are the columns of a state.
-- Assumes nothing.
use mathlib.Core.Path.{◌≡◌, ◌∙◌, sym, ap, ap₂}
use mathlib.Core.List.{List, [], ◌∷◌}
use Prim.Native.Nat.{ℕ, zero, suc, ◌+◌, ◌-◌, ◌*◌, ◌/◌, ◌%◌, ◌^◌, ◌<◌}
use native.Mathlib.Omega.{arith}
use lib.Bits.{xor_shr, xor_mod}
use Rattle.octets.specs.Lists.{octet, part}
use Rattle.octets.specs.Xor.{◌⊕◌, xors}
use Rattle.octets.proofs.Rules.{tab_ext, octet-tab}
use Rattle.cipher.specs.State.{at, cell, state}
use Rattle.cipher.proofs.Cells.{cell_at}
use Rattle.columns.specs.Words.{row_of}
use Rattle.columns.specs.Columns.{Column, state_from}

-- what holds in each of the four rows
by_row : (P : ℕ → Type 0) → P 0 → P 1 → P 2 → P 3 → (r : ℕ) → r < 4 → P r
by_row P a b c d zero h = a
by_row P a b c d (suc zero) h = b
by_row P a b c d (suc (suc zero)) h = c
by_row P a b c d (suc (suc (suc zero))) h = d
by_row P a b c d (suc (suc (suc (suc r)))) h = absurd (omega arith)

-- four octets, joined
pub joins : (a b c d : ℕ) → a < 256 → b < 256 → c < 256 → d < 256
    → Column (a * 0x1000000 + b * 0x10000 + c * 0x100 + d) (λ i. octet (a ∷ b ∷ c ∷ d ∷ []) i)
joins a b c d ha hb hc hd =
    let x : ℕ = a * 0x1000000 + b * 0x10000 + c * 0x100 + d in
    record { row = by_row (λ r. row_of r x ≡ octet (a ∷ b ∷ c ∷ d ∷ []) r) (omega arith) (omega arith) (omega arith) (omega arith) }

-- the same rows by other names
pub renamed : {x : ℕ} {y : ℕ → ℕ} (z : ℕ → ℕ) → Column x y → y 0 ≡ z 0 → y 1 ≡ z 1 → y 2 ≡ z 2 → y 3 ≡ z 3 → Column x z
renamed {x} {y} z column a b c d = record { row = λ r h. column.row r h ∙ by_row (λ r. y r ≡ z r) a b c d r h }

-- four words that are the columns of a state
pub columns : (f : ℕ → ℕ → ℕ) {p q u v : ℕ} → Column p (λ r. f r 0) → Column q (λ r. f r 1) → Column u (λ r. f r 2) → Column v (λ r. f r 3)
    → state_from (p ∷ q ∷ u ∷ v ∷ []) ≡ state f
unfolding state_from
columns f {p} {q} {u} {v} first second third fourth =
    tab_ext 16 (λ i h. (by_row (λ c. Column (octet (p ∷ q ∷ u ∷ v ∷ []) c) (λ r. f r c)) first second third fourth (i / 4) (omega arith)).row (i % 4) (omega arith))

-- the word at a place, as a column of the block at another
pub placed : (s : List ℕ) (place c : ℕ) {x p : ℕ} → p ≡ place + 4 * c → Column x (λ i. octet s (p + i)) → Column x (λ r. octet s (place + (r + 4 * c)))
placed s place c e word = record { row = λ r h. word.row r h ∙ ap (octet s) (omega arith) }

-- the block at a place
pub state-at : (s : List ℕ) (place : ℕ) → state (λ r c. octet s (place + (r + 4 * c))) ≡ part place 16 s
unfolding part
state-at s place = tab_ext 16 (λ i h. ap (λ (n : ℕ). octet s (place + n)) (sym (cell_at i)))

pub row-sum : (r x y : ℕ) → row_of r (x ⊕ y) ≡ row_of r x ⊕ row_of r y
row-sum r x y = ap (λ (n : ℕ). n % 2 ^ 8) (xor_shr x y (24 - 8 * r)) ∙ xor_mod (x / 2 ^ (24 - 8 * r)) (y / 2 ^ (24 - 8 * r)) 8

at-columns : (v : List ℕ) (r c : ℕ) → r < 4 → c < 4 → at (state_from v) r c ≡ row_of r (octet v c)
unfolding state_from
at-columns v r c hr hc =
    let row : (r + 4 * c) % 4 ≡ r = omega arith in
    let column : (r + 4 * c) / 4 ≡ c = omega arith in
    octet-tab 16 (cell (λ r c. row_of r (octet v c))) (r + 4 * c) (omega arith) ∙ ap₂ (λ (r c : ℕ). row_of r (octet v c)) row column

-- the sum of column c of two states
pub summed : (v w : List ℕ) (c : ℕ) → c < 4 → Column (octet v c ⊕ octet w c) (λ r. at (state_from v) r c ⊕ at (state_from w) r c)
summed v w c h =
    record {
      row = λ r k. row-sum r (octet v c) (octet w c) ∙ ap₂ ◌⊕◌ (sym (at-columns v r c k h)) (sym (at-columns w r c k h));
    }

pub state-sum : (a b : List ℕ) → state (λ r c. at a r c ⊕ at b r c) ≡ xors 16 a b
unfolding xors
state-sum a b = tab_ext 16 (λ i h. ap (λ (n : ℕ). octet a n ⊕ octet b n) (sym (cell_at i)))

-- the sum of column c and its word of a round key
pub keyed : (v w : List ℕ) (round c : ℕ) {x p : ℕ} → c < 4 → p ≡ 16 * round + 4 * c → Column x (λ i. octet w (p + i))
    → Column (octet v c ⊕ x) (λ r. at (state_from v) r c ⊕ at w r (4 * round + c))
keyed v w round c {x} h e word =
    record {
      row =
          λ r k.
          row-sum r (octet v c) x ∙ ap₂ ◌⊕◌ (sym (at-columns v r c k h)) (word.row r k ∙ ap (octet w) (omega arith));
    }
