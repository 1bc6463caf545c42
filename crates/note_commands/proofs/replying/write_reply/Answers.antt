-- `write_reply` is right because each branch writes the reply that its tests name, and with none the output stays.
-- Assumes nothing.
use mathlib.Core.Path.{sym, ap, ◌∙◌}
use mathlib.Core.List.{List}
use Prim.Native.Nat.{ℕ}
use Rattle.octets.specs.Output.{fronted}
use Rattle.event_log.specs.Held.{lent_log}
use Rattle.note_commands.proofs.Answering.{dumps, erases, replies_nothing, fronted-none}
use Rattle.note_commands.proofs.replying.write_reply.Goals as goal

pub returns-then-tag-eq-DUMP : goal.returns-then-tag-eq-DUMP
returns-then-tag-eq-DUMP c = let g = c.args in
    let lent = lent_log g.log g.events.now in
    c.write_dump.ensures
    ∙ ap (λ (t : List ℕ). fronted t g.output.now) (sym (dumps lent g.tag c.if-tag-eq-DUMP.true))

pub returns-then-tag-eq-ERASE : goal.returns-then-tag-eq-ERASE
returns-then-tag-eq-ERASE c = let g = c.args in
    let lent = lent_log g.log g.events.now in
    c.write_erase_reply.ensures
    ∙ ap (λ (t : List ℕ). fronted t g.output.now) (sym (erases lent g.tag c.if-tag-eq-DUMP.false c.if-tag-eq-ERASE.true))

pub returns-else-tag-eq-ERASE : goal.returns-else-tag-eq-ERASE
returns-else-tag-eq-ERASE c = let g = c.args in
    let lent = lent_log g.log g.events.now in
    fronted-none g.output.now
    ∙ ap (λ (t : List ℕ). fronted t g.output.now) (sym (replies_nothing lent g.tag c.if-tag-eq-DUMP.false c.if-tag-eq-ERASE.false))
