-- `reply_size` is right because each branch has the length of the reply that its tests name.
-- Assumes nothing.
use mathlib.Core.Path.{sym, ap, ◌∙◌}
use lib.ListN.{length}
use Rattle.event_log.specs.Held.{lent_log, room_for}
use Rattle.note_commands.proofs.Answering.{dumps, erases, replies_nothing, erase-long}
use Rattle.note_commands.proofs.replying.reply_size.Goals as goal

pub returns-then-tag-eq-DUMP : goal.returns-then-tag-eq-DUMP
returns-then-tag-eq-DUMP c = let g = c.args in
    let lent = lent_log g.log g.events.now in
    c.dump_size.ensures ∙ ap length (sym (dumps lent g.tag c.if-tag-eq-DUMP.true))

pub returns-then-tag-eq-ERASE : goal.returns-then-tag-eq-ERASE
returns-then-tag-eq-ERASE c = let g = c.args in
    let lent = lent_log g.log g.events.now in
    erase-long (room_for g.events.now) ∙ ap length (sym (erases lent g.tag c.if-tag-eq-DUMP.false c.if-tag-eq-ERASE.true))

pub returns : goal.returns
returns c = let g = c.args in
    let lent = lent_log g.log g.events.now in
    ap length (sym (replies_nothing lent g.tag c.if-tag-eq-DUMP.false c.if-tag-eq-ERASE.false))
