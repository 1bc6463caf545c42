-- `word_tables` is right because one test, computed over its 1,024 words, compares each octet with its product by the S-box.
-- Assumes nothing.
use mathlib.Core.Path.{refl}
use Rattle.octets.specs.Lists.{all}
use Rattle.substitution.specs.Field.{xtime, mul_bits, ◌•◌}
use Rattle.substitution.specs.Sbox.{squares, inverse, of_bits, affine, sbox}
use Rattle.word_tables.proofs.Rule.{right_word, right_words, right_tables, are_tables}
use Rattle.word_tables.proofs.word_tables.Goals as goal

pub returns : goal.returns
unfolding all right_word right_words right_tables sbox affine of_bits inverse squares ◌•◌ mul_bits xtime
returns c = are_tables _ refl refl
