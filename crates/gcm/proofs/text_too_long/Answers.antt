-- `text_too_long` is right because a length in octets is over the limit just where it is in bits.
-- Assumes nothing.
use mathlib.Core.Path.{sym}
use Rattle.gcm.proofs.Laws.{text_limit}
use Rattle.gcm.proofs.text_too_long.Goals as goal

pub returns : goal.returns
returns c = sym (text_limit c.args.text.now)
