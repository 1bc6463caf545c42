-- `accepts` is right because a number with a multiple of 2^32 in it is above the greatest, and one without is its lower part.
-- Assumes nothing.
use Rattle.verdicts.proofs.Accepting.{accepts_parts}
use borrow.Author.Rules.{rules}
use Rattle.verdicts.proofs.window.accepts.Goals as goal

pub returns : goal.returns
returns c = let g = c.args in accepts_parts g.last g.window g.n.above g.n.number (search rules)
