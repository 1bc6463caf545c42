-- `put` is right because after i turns the first i octets of the output are the piece's and the rest stands, and nothing is written where the
-- output has no room for all.
-- Assumes nothing.
use mathlib.Core.Path.{◌≡◌, ◌∙◌, sym}
use native.Mathlib.Omega.{arith}
use lib.ListN.{length}
use lib.Seq.{take-length}
use Rattle.octets.proofs.Filling.{front_more, with_room, without_room}
use Rattle.octets.proofs.copying.put.Goals as goal

pub loop-i-preserved : goal.loop-i-preserved
loop-i-preserved c = let g = c.args in
    rw c.loop-i.invariant (front_more g.piece.now g.out.now c.loop-i.i (omega arith) (omega arith))

pub returns-after-loop-i : goal.returns-after-loop-i
returns-after-loop-i c = let g = c.args in
    let e : c.loop-i.i ≡ length g.piece.now = omega arith in
    c.loop-i.invariant ∙ rw (e, take-length g.piece.now) (sym (with_room g.piece.now g.out.now c.if-piece-out.true))

pub returns-else-piece-out : goal.returns-else-piece-out
returns-else-piece-out c = let g = c.args in
    sym (without_room g.piece.now g.out.now c.if-piece-out.false)
