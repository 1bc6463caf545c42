-- `xors` is right because each turn writes the sum at its place.
-- Assumes nothing.
use mathlib.Core.Path.{refl}
use lib.ListN.{length-replicate}
use Rattle.octets.specs.Xor.{xors}
use Rattle.octets.proofs.Rules.{filled_none, filled_more, filled_all}
use Rattle.octets.proofs.adding.xors.Goals as goal

pub loop-i-init : goal.loop-i-init
loop-i-init g c = filled_none (length-replicate _ 0)

pub loop-i-preserved : goal.loop-i-preserved
loop-i-preserved g c = filled_more c.loop-i-test.true refl c.loop-i.invariant

pub returns : goal.returns
unfolding xors
returns g c = filled_all c.loop-i-test.false c.loop-i.invariant
