-- `long_number` is right because twelve octets are three words of four.
-- Assumes nothing.
use Rattle.security_header.proofs.Fields.{three_words}
use Rattle.security_header.proofs.sequence.long_number.Goals as goal

pub returns : goal.returns
returns c = rw (three_words 2 c.args.security.now) cc
