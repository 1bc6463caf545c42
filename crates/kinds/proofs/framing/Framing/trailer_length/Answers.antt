-- `trailer_length` is right because it adds what the definition adds, and a trailer is short, so no sum wraps.
-- Assumes nothing.
use native.Mathlib.Omega.{arith}
use Rattle.kinds.proofs.Sizes.{trailer_short}
use borrow.Author.Rules.{rules}
use Rattle.kinds.proofs.framing.Framing.trailer_length.Goals as goal

pub overflow_add-result : goal.overflow_add-result
overflow_add-result c = let given = c.args in
    record { fits = omega (arith, trailer_short given.self given.frame.now) }

pub returns : goal.returns
returns c = search rules
