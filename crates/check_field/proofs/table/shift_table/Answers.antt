-- `shift_table` is right because one test, computed over its 256 entries, compares each with eight shifts.
-- Assumes nothing.
use mathlib.Core.Path.{refl}
use Rattle.octets.proofs.Tables.{is-table}
use Rattle.check_field.specs.Register.{shift, shifts, shifted_octet}
use Rattle.check_field.proofs.table.shift_table.Goals as goal

pub returns : goal.returns
unfolding shifts shift
returns c = is-table 256 shifted_octet _ refl tt
