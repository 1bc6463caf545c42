-- `status_reply` is right because its octets are those of the definition, one by one.
-- Assumes nothing.
use native.Mathlib.Nat.{div-one}
use Rattle.octets.specs.Numbers.{bytes}
use Rattle.replies.proofs.status_reply.Goals as goal

pub returns : goal.returns
unfolding bytes
returns c = rw (c.to_be_bytes.ensures, div-one c.args.spi)
