-- `write_dump` is right because tag and length field and then the lines behind them are the reply, and without room for it nothing is written.
-- Assumes nothing.
use mathlib.Core.Path.{◌∙◌, ap}
use Prim.Native.Nat.{ℕ}
use mathlib.Core.List.{List}
use native.Mathlib.Omega.{arith}
use Rattle.octets.specs.Output.{fronted}
use Rattle.event_log.specs.Events.{dump_reply}
use Rattle.event_log.specs.Held.{events_in, lines_behind}
use Rattle.event_log.proofs.Lines.{reply-written, reply-kept_back}
use Rattle.event_log.proofs.dumping.write_dump.Goals as goal

pub returns-then-n-output : goal.returns-then-n-output
returns-then-n-output c = let a = c.args in
    let n = c.kept_count-n.result in
    c.put_lines.ensures
    ∙ ap (λ (o : List ℕ). lines_behind o a.events.now n)
    (c.put.ensures ∙ ap (λ (f : List ℕ). fronted f a.output.now) c.front_of.ensures)
    ∙ reply-written a.output.now a.events.now n (omega arith)
    ∙ ap (λ (k : ℕ). fronted (dump_reply (events_in k a.events.now)) a.output.now) c.kept_count-n.ensures.0

pub returns-else-n-output : goal.returns-else-n-output
returns-else-n-output c = let a = c.args in
    reply-kept_back a.output.now a.events.now c.kept_count-n.result (omega arith)
    ∙ ap (λ (k : ℕ). fronted (dump_reply (events_in k a.events.now)) a.output.now) c.kept_count-n.ensures.0
