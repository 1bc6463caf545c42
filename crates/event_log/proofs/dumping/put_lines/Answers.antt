-- `put_lines` is right because each turn puts one event behind those before it: after i turns the first i events stand behind the first
-- three octets, and what is behind them is as it was.
-- Assumes nothing.
use mathlib.Core.Path.{◌∙◌, sym, ap}
use Prim.Native.Nat.{ℕ, ◌+◌, ◌*◌}
use mathlib.Core.List.{List, ◌++◌}
use lib.ListN.{take, drop}
use Rattle.octets.specs.Output.{fronted}
use native.Mathlib.Omega.{arith}
use Rattle.event_log.proofs.Lines.{lines_none, lines_more}
use Rattle.event_log.proofs.dumping.put_lines.Goals as goal

pub loop-i-init : goal.loop-i-init
loop-i-init c = let a = c.args in
    sym (lines_none a.output.now a.events.now (omega arith))

pub loop-i-preserved : goal.loop-i-preserved
loop-i-preserved c = let a = c.args in
    let whole = c.loop-i.output in
    let at = 3 + 5 * c.loop-i.i in
    c.put_behind.ensures
    ∙ ap (λ (piece : List ℕ). take at whole ++ fronted piece (drop at whole)) c.line_at.ensures
    ∙ lines_more a.output.now a.events.now c.loop-i.i whole (omega arith) c.loop-i.invariant
