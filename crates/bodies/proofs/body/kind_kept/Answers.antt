-- `kind_kept` is right because it joins the four tests that the definition joins.
-- Assumes nothing.
use Rattle.bodies.proofs.body.kind_kept.Goals as goal

pub returns : goal.returns
returns c = rw (
  c.mask_ok.ensures,
  c.most_map.ensures,
  c.map_of.ensures,
  c.channel_ok.ensures,
  c.most_spacecraft.ensures,
  c.spacecraft_of.ensures,
)
