-- `shift_rows` is right because each of the sixteen places takes the octet that (5.3) names, which computes.
-- Assumes nothing.
use mathlib.Core.Path.{refl}
use Rattle.octets.specs.Lists.{tab}
use Rattle.cipher.specs.ShiftRows.{shift_rows}
use Rattle.cipher.proofs.shift_rows.shift_rows.Goals as goal

pub returns : goal.returns
unfolding shift_rows tab
returns c = refl
