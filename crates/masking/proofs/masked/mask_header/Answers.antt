-- `mask_header` is right because each turn writes one octet of the masked header, and nothing is written where the output has no room for all.
-- Assumes nothing.
use mathlib.Core.Path.{◌≡◌, ◌∙◌}
use Prim.Native.Nat.{min}
use native.Mathlib.Nat.{min-le_right}
use native.Mathlib.Omega.{arith}
use lib.ListN.{length}
use Rattle.octets.proofs.Filling.{front_more}
use Rattle.kinds.specs.Kinds.{framed}
use Rattle.masking.specs.Masked.{masked}
use Rattle.masking.proofs.Masking.{length-masked}
use Rattle.masking.proofs.Fronting.{with_room, without_room, refused, told}
use Rattle.masking.proofs.masked.mask_header.Goals.{After-min-count}
use Rattle.masking.proofs.masked.mask_header.Goals as goal

counted : (c : After-min-count) → let given = c.args in
    c.min-count.result ≡ min ((framed given.framing).header given.frame.now) (length given.frame.now)
counted c = rw (← c.header_length.ensures) c.min-count.ensures

pub returns-then-out-count : goal.returns-then-out-count
returns-then-out-count c = let g = c.args in
    let count = c.min-count.result in
    let is = counted (goal.at.returns-then-out-count c).After-min-count in (
      refused (framed g.framing) g.mask.now g.frame.now g.out.now count is c.if-out-count.true,
      without_room (framed g.framing) g.mask.now g.frame.now g.out.now count is c.if-out-count.true,
    )

pub loop-i-preserved : goal.loop-i-preserved
loop-i-preserved c = let g = c.args in
    let at-loop = c.loop-i in
    let whole = min-le_right ((framed g.framing).header g.frame.now) (length g.frame.now) in
    rw (at-loop.invariant, c.masked_octet.ensures)
    (front_more (masked g.mask.now g.frame.now) g.out.now at-loop.i
    (omega (arith, counted (goal.at.loop-i-preserved c).After-min-count, length-masked g.mask.now g.frame.now)) (omega arith))

pub returns : goal.returns
returns c = let g = c.args in
    let count = c.min-count.result in
    let is = counted (goal.at.returns c).After-min-count in
    let e : c.loop-i.i ≡ count = omega arith in (
      told (framed g.framing) g.mask.now g.frame.now g.out.now count is (omega arith),
      c.loop-i.invariant ∙ rw e (with_room (framed g.framing) g.mask.now g.frame.now g.out.now count is (omega arith)),
    )
