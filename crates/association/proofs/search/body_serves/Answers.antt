-- `body_serves` is right because it joins the tests that the definition joins.
-- Assumes nothing.
use Rattle.association.specs.Search.{body_serves}
use Rattle.association.proofs.search.body_serves.Goals as goal

pub returns : goal.returns
unfolding body_serves
returns c = rw (
  c.serves_map.ensures,
  c.serves_channel.ensures,
  c.spacecraft_of.ensures,
  c.kind_in.ensures,
  c.direction_of.ensures,
  c.state_of.ensures,
)
