-- `number_reply` is right because a number below 2^32 has eight zeros before its four octets.
-- Assumes nothing.
use mathlib.Core.Path.{◌∙◌}
use Rattle.replies.proofs.ReplyOctets.{number_made}
use borrow.Author.Rules.{rules}
use Rattle.replies.proofs.number_reply.Goals as goal

pub returns : goal.returns
returns c =
    let spi = c.copy_from_slice.ensures.after ∙ c.to_be_bytes.ensures in
    let last = c.copy_from_slice-2.ensures.after ∙ c.to_be_bytes-2.ensures in
    rw (spi, last) (number_made c.args.spi c.args.last (search rules))
