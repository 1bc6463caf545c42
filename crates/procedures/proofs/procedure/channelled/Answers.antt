-- `channelled` is right because it makes the two tests of the definition, the second where it does not wrap.
-- Assumes nothing.
use native.Mathlib.Omega.{arith}
use borrow.Author.Tests.{lt-leb, le-leb}
use Rattle.procedures.proofs.procedure.channelled.Goals as goal

pub returns-then-n : goal.returns-then-n
returns-then-n c = rw (lt-leb 6 c.args.n (omega arith))

pub returns : goal.returns
returns c = rw (le-leb 6 c.args.n (omega arith))
