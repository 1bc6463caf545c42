-- `apply` is right because before each block `out` begins with as many octets of the result, and the rest of it stands as it was.
-- Assumes nothing.
use mathlib.Core.Path.{refl}
use native.Mathlib.Omega.{arith}
use Rattle.block.specs.Halves.{value}
use Rattle.gctr.proofs.Counting.{streaming_none, streaming_more, streaming_all, streaming_refused}
use borrow.Author.Rules.{rules}
use Rattle.gctr.proofs.apply.Goals as goal

pub returns-then-out-src : goal.returns-then-out-src
returns-then-out-src c = let given = c.args in
    streaming_refused given.expanded.now given.src.now given.out.now (value given.icb) c.if-out-src.true

pub loop-at-init : goal.loop-at-init
loop-at-init c = (refl, streaming_none _ _ _ _)

pub loop-at-preserved : goal.loop-at-preserved
loop-at-preserved c = let at-loop = c.loop-at in
    let given = c.args in (
      search rules,
      streaming_more given.expanded.now given.src.now given.out.now (value given.icb) (omega arith) c.loop-at-test.true
          c.add_stream-at.ensures.0 c.encipher.ensures c.add_stream-at.ensures.1 c.increment-cb.ensures at-loop.invariant.1,
    )

pub returns : goal.returns
returns c = streaming_all _ _ _ _ c.loop-at-test.false (omega arith) c.loop-at.invariant.1
