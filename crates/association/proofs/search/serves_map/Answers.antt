-- `serves_map` is right because it joins the two tests that the definition joins.
-- Assumes nothing.
use Rattle.association.proofs.search.serves_map.Goals as goal

pub returns : goal.returns
returns c = rw (c.map_of.ensures, c.has_map.ensures, c.kind_in.ensures)
