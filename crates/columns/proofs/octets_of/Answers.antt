-- `octets_of` is right because each octet is the row of a column, which computes.
-- Assumes nothing.
use native.Mathlib.Nat.{div-one}
use Rattle.octets.specs.Lists.{tab}
use Rattle.columns.specs.Columns.{state_from}
use Rattle.columns.proofs.octets_of.Goals as goal

pub returns : goal.returns
unfolding state_from tab
returns c = simp (c.to_be_bytes-a.ensures, c.to_be_bytes-b.ensures, c.to_be_bytes-c.ensures, c.to_be_bytes-d.ensures, div-one)
