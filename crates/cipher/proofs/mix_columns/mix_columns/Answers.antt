-- `mix_columns` is right because each column is the product by a(x) of the same column.
-- Assumes nothing.
use Rattle.octets.specs.Lists.{tab}
use Rattle.cipher.specs.MixColumns.{mix_columns}
use Rattle.cipher.proofs.mix_columns.mix_columns.Goals as goal

pub returns : goal.returns
unfolding mix_columns tab
returns c = simp (c.mix_column-a.ensures, c.mix_column-b.ensures, c.mix_column-c.ensures, c.mix_column-d.ensures)
