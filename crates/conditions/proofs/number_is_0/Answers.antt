-- `number_is_0` is right because twelve octets are three words, and their number is 0 only if each of these is.
-- Assumes nothing.
use Rattle.security_header.proofs.Fields.{three_words}
use Rattle.conditions.proofs.ZeroNumbers.{all-zero}
use Rattle.conditions.proofs.number_is_0.Goals as goal

pub returns : goal.returns
returns c = let value = c.args.value.now in
    rw (three_words 4 value, all-zero, c.four_at-3.ensures, c.four_at-2.ensures, c.four_at.ensures)
