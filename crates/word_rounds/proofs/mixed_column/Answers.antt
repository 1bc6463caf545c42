-- `mixed_column` is right because a sum of the four tables' words is the product by a(x) of what the S-box makes of the four octets.
-- Assumes nothing.
use Rattle.word_rounds.proofs.Mixing.{mixes}
use Rattle.word_rounds.proofs.mixed_column.Goals as goal

pub returns : goal.returns
returns c = rw (c.place.ensures, c.place-2.ensures)
    (mixes c.requires.are_tables c.args.a c.args.b c.args.c c.args.d)
