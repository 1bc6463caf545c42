-- `opening` is right because its octets are those of the definition, one by one: no total that an octet holds needs a high octet.
-- Assumes nothing.
use borrow.Author.Rules.{rules}
use Rattle.inventory.proofs.Totals.{opening_octets}
use Rattle.inventory.proofs.opening.Goals as goal

pub returns : goal.returns
returns c = rw c.to_be_bytes.ensures (opening_octets c.args.total (search rules))
