-- `gathered` is right because each turn writes one octet of the message, and the turns go through sixteen of them.
-- Assumes nothing.
use mathlib.Core.Path.{refl}
use Rattle.octets.proofs.Rules.{filled_none, filled_more, filled_all}
use Rattle.message_blocks.proofs.gathered.Goals as goal

pub loop-j-init : goal.loop-j-init
loop-j-init c = filled_none refl

pub loop-j-preserved : goal.loop-j-preserved
loop-j-preserved c = filled_more c.loop-j-test.true c.message_octet.ensures c.loop-j.invariant

pub returns : goal.returns
returns c = filled_all c.loop-j-test.false c.loop-j.invariant
