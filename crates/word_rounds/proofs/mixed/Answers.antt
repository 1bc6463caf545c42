-- `mixed` is right because each column of the shifted state is the diagonal of four, and is multiplied by a(x).
-- Assumes nothing.
use Rattle.octets.specs.Lists.{octet, tab}
use Rattle.substitution.specs.Field.{◌⊗◌}
use Rattle.cipher.specs.MixColumns.{mixer, mix_columns}
use Rattle.cipher.specs.ShiftRows.{shift_rows}
use Rattle.cipher.specs.State.{column}
use Rattle.cipher.specs.SubBytes.{sub_bytes}
use Rattle.columns.specs.Columns.{state_from}
use Rattle.columns.proofs.Columns.{columns}
use Rattle.word_rounds.proofs.mixed.Goals as goal

pub returns : goal.returns
unfolding mix_columns shift_rows sub_bytes state_from tab
returns c = let s = shift_rows (sub_bytes (state_from c.args.v)) in
    columns (λ r c. octet (mixer ⊗ column s c) r) c.mixed_column.ensures c.mixed_column-2.ensures
    c.mixed_column-3.ensures c.mixed_column-4.ensures
