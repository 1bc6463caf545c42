-- `front_of` is right because its octets are those of the definition, one by one.
-- Assumes nothing.
use native.Mathlib.Nat.{div-one}
use Rattle.octets.specs.Numbers.{bytes}
use Prim.Native.Nat.{◌*◌}
use Rattle.event_log.proofs.dumping.front_of.Goals as goal

pub returns : goal.returns
unfolding bytes
returns c = rw (c.to_be_bytes.ensures, div-one (5 * c.args.n))
