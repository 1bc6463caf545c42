-- `dump_size` is right because the reply has three octets and five for each event that is kept.
-- Assumes nothing.
use mathlib.Core.Path.{◌∙◌, sym, ap}
use Prim.Native.Nat.{ℕ, ◌+◌, ◌*◌}
use Rattle.event_log.specs.Held.{kept_count}
use Rattle.event_log.proofs.Lines.{reply-long}
use Rattle.event_log.proofs.dumping.dump_size.Goals as goal

pub returns : goal.returns
returns c = let g = c.args in
    ap (λ (n : ℕ). 3 + 5 * n) c.kept_count.ensures.0 ∙ sym (reply-long (kept_count g.log.kept g.events.now) g.events.now)
