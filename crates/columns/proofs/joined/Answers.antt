-- `joined` is right because each octet has its own eight bits of the word.
-- Assumes nothing.
use Rattle.columns.proofs.Columns.{joins}
use borrow.Author.Rules.{rules}
use Rattle.columns.proofs.joined.Goals as goal

pub returns : goal.returns
returns c = rw c.from_be_bytes.ensures (joins c.args.a c.args.b c.args.c c.args.d (search rules) (search rules) (search rules) (search rules))
