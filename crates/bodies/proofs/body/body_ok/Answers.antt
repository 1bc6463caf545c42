-- `body_ok` is right because it joins the tests that the definition joins.
-- Assumes nothing.
use Rattle.bodies.specs.Body.{body_ok}
use Rattle.bodies.proofs.body.body_ok.Goals as goal

pub returns : goal.returns
unfolding body_ok
returns c = rw (
  c.owner_ok.ensures,
  c.mark_ok.ensures,
  c.window_ok.ensures,
  c.kind_ok.ensures,
  c.state_ok.ensures,
  c.direction_ok.ensures,
  c.service_ok.ensures,
)
