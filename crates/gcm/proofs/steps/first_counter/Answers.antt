-- `first_counter` is right because the IV with zeros behind it ends in 32 zeros, the last of which becomes the 1.
-- Assumes nothing.
use Rattle.gcm.proofs.Tagging.{low-room, j0_halves}
use borrow.Author.Rules.{rules}
use Rattle.gcm.proofs.steps.first_counter.Goals as goal

pub overflow_add-result : goal.overflow_add-result
overflow_add-result c = let b = c.load-b.result in
    let iv = c.args.iv in
    record { fits = low-room iv b.hi b.lo (search rules) c.load-b.ensures (search rules) }

pub returns : goal.returns
returns c = let b = c.load-b.result in
    let iv = c.args.iv in
    j0_halves iv b.hi b.lo (search rules) c.load-b.ensures
