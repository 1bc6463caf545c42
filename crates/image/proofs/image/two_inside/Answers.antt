-- `two_inside` is right because octets that are all there are the same read by themselves.
-- Assumes nothing.
use mathlib.Core.Path.{◌∙◌}
use Rattle.bodies.proofs.Lent.{number_lent}
use Rattle.image.proofs.image.two_inside.Goals as goal

pub returns : goal.returns
returns c = c.two_at.ensures ∙ number_lent c.args.image.now c.args.from 2
