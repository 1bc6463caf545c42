-- `holds_set` is right because layout and kind decide as in the definition.
-- Assumes nothing.
use Rattle.bodies.proofs.body.holds_set.Goals as goal

pub returns : goal.returns
returns c = rw (c.kind_in.ensures, c.layout_of.ensures.0)
