-- `place` is right because the bits of 255 are the eight lowest.
-- Assumes nothing.
use mathlib.Core.Path.{◌∙◌, ap}
use native.Mathlib.Omega.{arith}
use lib.Bits.{bit_and, and_le_r, and_mask}
use Rattle.word_rounds.proofs.place.Goals as goal

pub overflow_cast-result : goal.overflow_cast-result
overflow_cast-result c = record { fits = omega (arith, and_le_r c.args.x c.args.last) }

pub returns : goal.returns
returns c = ap (bit_and c.args.x) c.requires ∙ and_mask c.args.x 8
