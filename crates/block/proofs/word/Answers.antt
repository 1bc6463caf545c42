-- After k turns w is the number of the first k octets, which has room for another.
-- Assumes nothing.
use Rattle.std.proofs.Common.{refl, arith, rules}
use Rattle.octets.specs.Numbers.{number}
use Rattle.block.proofs.Halves.{word_more, word_room, octet_more}
use Rattle.block.proofs.word.Goals as goal

pub loop-k-init : goal.loop-k-init
unfolding number
loop-k-init c = (refl, omega arith)

pub overflow_mul-w : goal.overflow_mul-w
overflow_mul-w c = omega (arith, word_room c.loop-k.k c.loop-k.w (omega arith) (omega arith))

pub overflow_add-w : goal.overflow_add-w
overflow_add-w c = omega (arith, word_room c.loop-k.k c.loop-k.w (omega arith) (omega arith))

pub loop-k-preserved : goal.loop-k-preserved
loop-k-preserved c = let w = c.loop-k.w in
    let o = c.octet_behind.result in (
      word_more _ w o c.args.at c.args.s.now c.loop-k.invariant.0 c.octet_behind.ensures,
      octet_more _ w o (search rules) c.loop-k.invariant.1,
    )
