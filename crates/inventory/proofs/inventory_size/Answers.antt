-- `inventory_size` is right because a reply has five octets before the keys, and three for each.
-- Assumes nothing.
use native.Mathlib.Omega.{arith}
use Rattle.inventory.proofs.Totals.{reply-length}
use Rattle.inventory.proofs.inventory_size.Goals as goal

pub returns : goal.returns
returns c = let g = c.args in
    omega (arith, reply-length g.image.now g.at g.first g.last g.count)
