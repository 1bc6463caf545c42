-- `told_of` is right because its octets are the two of the ID and the state, one by one.
-- Assumes nothing.
use native.Mathlib.Nat.{div-one}
use Rattle.octets.specs.Numbers.{bytes}
use Rattle.inventory.proofs.told_of.Goals as goal

pub returns : goal.returns
unfolding bytes
returns c = rw (c.to_be_bytes.ensures, ← c.key_id_at.ensures, ← c.key_state_at.ensures, div-one)
