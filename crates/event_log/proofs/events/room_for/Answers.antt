-- `room_for` is right because the smaller of the two is what the definition's test picks.
-- Assumes nothing.
use native.Mathlib.Omega.{arith}
use Rattle.std.proofs.lemmas.Grind.{common_steps}
use Rattle.event_log.specs.Held.{room_for}
use Rattle.event_log.proofs.events.room_for.Goals as goal

pub returns : goal.returns
unfolding room_for
returns c = (grind (arith, common_steps), omega (arith, c.min.ensures), omega (arith, c.min.ensures))
