-- The tables' rule: one test, computed over all of them, compares each octet of the four words at b with its product by the S-box of b.
-- Assumes nothing.
use mathlib.Core.Path.{◌≡◌}
use mathlib.Core.Bool.{Bool, true}
use mathlib.Core.List.{List}
use Prim.Native.Nat.{ℕ, ◌+◌, ◌-◌, ◌*◌, ◌%◌}
use borrow.Author.Tests.{eqb-true}
use lib.Dec.{eqb}
use lib.ListN.{length}
use Rattle.octets.specs.Lists.{octet, all}
use Rattle.octets.proofs.Alls.{all-at}
use Rattle.substitution.specs.Field.{◌•◌}
use Rattle.substitution.specs.Sbox.{sbox}
use Rattle.cipher.specs.MixColumns.{mixer}
use Rattle.columns.specs.Words.{row_of}
use Rattle.word_tables.specs.Tables.{IsTables}

-- the word x of table j, for the octet s
unfoldable pub right_word : ℕ → ℕ → ℕ → Bool
right_word j s x = all 4 (λ r. eqb (row_of r x) (octet mixer ((r + 4 - j) % 4) • s))

-- the four words at b, for the octet s
unfoldable pub right_words : List ℕ → ℕ → ℕ → Bool
right_words t b s = all 4 (λ j. right_word j s (octet t (256 * j + b)))

unfoldable pub right_tables : List ℕ → Bool
right_tables t = all 256 (λ b. right_words t b (sbox b))

pub are_tables : (t : List ℕ) → length t ≡ 1024 → right_tables t ≡ true → IsTables t
unfolding right_tables right_words right_word
are_tables t long e =
    record {
      long = long;
      entry =
          λ j b r hj hb hr.
          eqb-true _ _ (all-at 4 _ (all-at 4 _ (all-at 256 (λ b. right_words t b (sbox b)) e b hb) j hj) r hr);
    }
