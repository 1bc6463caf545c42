-- `entered` is right because each of its branches is the case of the definition that its tests name.
-- Assumes nothing.
use Rattle.std.proofs.Common.{◌≡◌, ◌+◌, ◌<◌, arith, rules}
use native.Mathlib.Decide.{dec_lt}
use Rattle.event_log.specs.Held.{lent_log, event, entered_in}
use Rattle.event_log.proofs.Holding.{enters_kept, enters_dropped, enters_nothing}
use Rattle.event_log.proofs.events.Log.entered.Goals as goal

pub returns-then-kept-room_for : goal.returns-then-kept-room_for
returns-then-kept-room_for c =
    let g = c.args in
    enters_kept (lent_log g.self g.events.now) (event g.desk g.tag g.answer) _ (omega arith) c.put_event.ensures

pub returns : goal.returns
returns c = by_place (dec_lt c.args.self.dropped 4294967295)
  where
    by_place : Dec (c.args.self.dropped < 4294967295)
        → lent_log (record { kept = c.args.self.kept; dropped = c.saturating_add.result }) c.args.events.now
        ≡ entered_in (lent_log c.args.self c.args.events.now) (event c.args.desk c.args.tag c.args.answer)
    by_place (yes k) =
        let one_more : c.saturating_add.result ≡ c.args.self.dropped + 1 = omega (arith, c.saturating_add.ensures) in
        rw one_more (enters_dropped (lent_log c.args.self c.args.events.now) (event c.args.desk c.args.tag c.args.answer) (omega arith) k)
    by_place (no g) =
        let fits : c.args.self.dropped < 4294967296 = search rules in
        let same : c.saturating_add.result ≡ c.args.self.dropped = omega (arith, c.saturating_add.ensures) in
        rw same (enters_nothing (lent_log c.args.self c.args.events.now) (event c.args.desk c.args.tag c.args.answer) (omega arith) (omega arith))
