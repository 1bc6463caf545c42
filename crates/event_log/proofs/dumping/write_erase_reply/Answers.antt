-- `write_erase_reply` is right because its octets are those of the definition.
-- Assumes nothing.
use mathlib.Core.Path.{◌∙◌, ap}
use mathlib.Core.List.{List}
use Prim.Native.Nat.{ℕ}
use Rattle.octets.specs.Output.{fronted}
use Rattle.event_log.proofs.Lines.{erase-octets}
use Rattle.event_log.proofs.dumping.write_erase_reply.Goals as goal

pub returns : goal.returns
returns c = let g = c.args in
    c.put.ensures ∙ ap (λ (t : List ℕ). fronted t g.output.now) (rw c.to_be_bytes.ensures (erase-octets _ _ c.room_for.ensures.0))
