-- A sum of four words of the tables is the product by a(x) of the column that the S-box makes of four octets, and two octets of each word are
-- the S-box itself.
-- Assumes nothing.
use mathlib.Core.Path.{◌≡◌, ◌∙◌, sym, ap, ap₂}
use mathlib.Core.List.{List}
use Prim.Native.Nat.{ℕ, ◌+◌, ◌-◌, ◌*◌, ◌%◌, ◌<◌}
use native.Mathlib.Omega.{arith}
use lib.ListN.{length, take, drop, length-drop}
use lib.Seq.{get_or-drop, get_or-take, length-take-le}
use Rattle.octets.specs.Lists.{octet}
use Rattle.octets.specs.Xor.{◌⊕◌}
use Rattle.octets.proofs.Rules.{octet-tab}
use Rattle.substitution.specs.Field.{◌•◌, ◌⊗◌}
use Rattle.substitution.specs.Sbox.{sbox}
use Rattle.substitution.proofs.Products.{mul-one}
use Rattle.cipher.specs.MixColumns.{mixer}
use Rattle.columns.specs.Words.{row_of}
use Rattle.columns.specs.Columns.{Column}
use Rattle.columns.proofs.Columns.{row-sum}
use Rattle.word_tables.specs.Tables.{IsTables}
use Rattle.word_rounds.specs.Apart.{IsTable, AreTables}
use Rattle.word_rounds.specs.Diagonal.{diagonal}

-- row r of the word for b of table j, by its coefficient n of a(x)
looked_up : {j : ℕ} {t : List ℕ} → IsTable j t → (b r n : ℕ) → b < 256 → r < 4 → (r + 4 - j) % 4 ≡ n → row_of r (octet t b) ≡ octet mixer n • sbox b
looked_up is b r n hb hr e = is.entry b r hb hr ∙ ap (λ (i : ℕ). octet mixer i • sbox b) e

pub mixes : {p q u v : List ℕ} → AreTables p q u v → (a b c d : ℕ)
    → Column (octet p (row_of 0 a) ⊕ octet q (row_of 1 b) ⊕ octet u (row_of 2 c) ⊕ octet v (d % 256)) (λ i. octet (mixer ⊗ diagonal a b c d) i)
unfolding ◌⊗◌
mixes {p} {q} {u} {v} are a b c d = record { row = λ r h. at_row r h ∙ sym (octet-tab 4 _ r h) } where
  at_row : (r : ℕ) → r < 4
      → row_of r (octet p (row_of 0 a) ⊕ octet q (row_of 1 b) ⊕ octet u (row_of 2 c) ⊕ octet v (d % 256))
      ≡ octet mixer r • sbox (row_of 0 a) ⊕ octet mixer ((r + 3) % 4) • sbox (row_of 1 b) ⊕ octet mixer ((r + 2) % 4) • sbox (row_of 2 c)
      ⊕ octet mixer ((r + 1) % 4) • sbox (row_of 3 d)
  at_row r h =
      row-sum r _ _
      ∙ ap₂ ◌⊕◌
      (row-sum r _ _
      ∙ ap₂ ◌⊕◌
      (row-sum r _ _
      ∙ ap₂ ◌⊕◌
      (looked_up are.at_first (row_of 0 a) r r (omega arith) h (omega arith))
      (looked_up are.at_second (row_of 1 b) r ((r + 3) % 4) (omega arith) h (omega arith)))
      (looked_up are.at-third (row_of 2 c) r ((r + 2) % 4) (omega arith) h (omega arith)))
      (ap (λ (n : ℕ). row_of r (octet v n)) (omega arith) ∙ looked_up are.at-fourth (row_of 3 d) r ((r + 1) % 4) (omega arith) h (omega arith))

-- a row whose coefficient is {01}
pub substitutes : {j : ℕ} {t : List ℕ} → IsTable j t → (b r : ℕ) → b < 256 → r < 4 → octet mixer ((r + 4 - j) % 4) ≡ 1 → row_of r (octet t b) ≡ sbox b
substitutes is b r hb hr e = is.entry b r hb hr ∙ ap (λ (n : ℕ). n • sbox b) e ∙ mul-one (sbox b)

-- the tables that stand one behind the other
pub apart : {t : List ℕ} → IsTables t → (j at : ℕ) → j < 4 → at ≡ 256 * j → IsTable j (take 256 (drop at t))
apart {t} is j at h e =
    let long : length t ≡ 1024 = is.long in
    record {
      long = length-take-le 256 (drop at t) (omega (arith, length-drop at t));
      entry =
          λ b r hb hr.
          ap (row_of r) (get_or-take 256 (drop at t) b 0 hb ∙ get_or-drop at t b 0 ∙ ap (λ (n : ℕ). octet t (n + b)) e) ∙ is.entry j b r h hb hr;
    }
