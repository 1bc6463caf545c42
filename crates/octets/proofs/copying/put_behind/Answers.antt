-- `put_behind` is right because it puts the piece to the front of what stands from the place on, and past the end there is no room.
-- Assumes nothing.
use mathlib.Core.Path.{sym}
use native.Mathlib.Omega.{arith}
use Rattle.octets.specs.Output.{fronted}
use Rattle.octets.proofs.Filling.{lent_back, past_the_end}
use Rattle.octets.proofs.copying.put_behind.Goals as goal

pub returns-then-at-out : goal.returns-then-at-out
returns-then-at-out c = let g = c.args in
    rw c.put.ensures (lent_back g.at (fronted g.piece.now) g.out.now)

pub returns-else-at-out : goal.returns-else-at-out
returns-else-at-out c = let g = c.args in
    sym (past_the_end g.at g.piece.now g.out.now (omega arith))
