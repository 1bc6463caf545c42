-- `mix_column` is right because it is the product by a(x), written out: {01} times b is b, {02} times b is `xtime b`, and {03} times b is their sum.
-- Assumes nothing.
use Rattle.octets.specs.Lists.{tab}
use Rattle.substitution.specs.Field.{◌⊗◌}
use Rattle.substitution.proofs.Products.{mul-one, mul-two, mul-three}
use Rattle.cipher.proofs.mix_columns.mix_column.Goals as goal

pub returns : goal.returns
unfolding ◌⊗◌ tab
returns c = simp (mul-one, mul-two, mul-three, c.times_x-a2.ensures, c.times_x-b2.ensures, c.times_x-c2.ensures, c.times_x-d2.ensures)
