-- `write_ping` is right because its octets are those of the definition, one by one.
-- Assumes nothing.
use Rattle.octets.specs.Numbers.{bytes}
use Rattle.replies.proofs.write_ping.Goals as goal

pub returns : goal.returns
unfolding bytes
returns c = c.put.ensures
