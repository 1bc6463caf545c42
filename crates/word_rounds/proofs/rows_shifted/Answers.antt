-- `rows_shifted` is right because each column of the shifted state is the diagonal of four.
-- Assumes nothing.
use mathlib.Core.Path.{refl}
use Prim.Native.Nat.{◌+◌, ◌%◌}
use Rattle.octets.specs.Lists.{tab}
use Rattle.cipher.specs.ShiftRows.{shift_rows}
use Rattle.cipher.specs.State.{at}
use Rattle.cipher.specs.SubBytes.{sub_bytes}
use Rattle.columns.specs.Columns.{state_from}
use Rattle.columns.proofs.Columns.{renamed, columns}
use Rattle.word_rounds.proofs.rows_shifted.Goals as goal

pub returns : goal.returns
unfolding shift_rows sub_bytes state_from tab
returns c = let s = sub_bytes (state_from c.args.v) in
    columns (λ r c. at s r ((c + r) % 4)) (renamed (λ r. at s r ((0 + r) % 4)) c.substituted_column.ensures refl refl refl refl)
    (renamed (λ r. at s r ((1 + r) % 4)) c.substituted_column-2.ensures refl refl refl refl)
    (renamed (λ r. at s r ((2 + r) % 4)) c.substituted_column-3.ensures refl refl refl refl)
    (renamed (λ r. at s r ((3 + r) % 4)) c.substituted_column-4.ensures refl refl refl refl)
