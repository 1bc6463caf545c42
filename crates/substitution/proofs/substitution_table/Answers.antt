-- `substitution_table` is right because one test, computed over its 256 entries, compares each with the inverse and the affine step.
-- Assumes nothing.
use mathlib.Core.Path.{refl}
use Rattle.substitution.specs.Field.{xtime, mul_bits, ◌•◌}
use Rattle.substitution.specs.Sbox.{squares, inverse, of_bits, affine, sbox}
use Rattle.octets.proofs.Tables.{is-table}
use Rattle.substitution.proofs.substitution_table.Goals as goal

pub returns : goal.returns
unfolding sbox affine of_bits inverse squares ◌•◌ mul_bits xtime
returns c = is-table 256 sbox _ refl tt
