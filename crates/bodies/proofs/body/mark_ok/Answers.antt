-- `mark_ok` is right because a mark is below 2^26 if and only if its code is.
-- Assumes nothing.
use mathlib.Core.Path.{sym}
use Rattle.marks.proofs.GrayCode.{below_together}
use borrow.Author.Rules.{rules}
use Rattle.bodies.proofs.body.mark_ok.Goals as goal

pub returns : goal.returns
returns c = rw (← c.code_of.ensures) (sym (below_together 26 c.code_of.result (search rules)))
