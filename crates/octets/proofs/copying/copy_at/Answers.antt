-- `copy_at` is right because each turn writes the octet at its place.
-- Assumes nothing.
use mathlib.Core.Path.{refl}
use Rattle.octets.specs.Lists.{part}
use Rattle.octets.proofs.Rules.{filled_none, filled_more, filled_all}
use borrow.Author.Rules.{rules}
use Rattle.octets.proofs.copying.copy_at.Goals as goal

pub loop-i-init : goal.loop-i-init
loop-i-init c = filled_none refl

pub loop-i-preserved : goal.loop-i-preserved
loop-i-preserved c = filled_more (search rules) c.octet_behind.ensures c.loop-i.invariant

pub returns : goal.returns
unfolding part
returns c = filled_all (search rules) c.loop-i.invariant
