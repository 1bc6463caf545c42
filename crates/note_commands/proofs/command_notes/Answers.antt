-- `command_notes` is right because a ruling is what the definition decides: a refusal changes nothing, and else the reply is written.
-- Assumes nothing.
use mathlib.Core.Path.{ap, ◌∙◌}
use Prim.Native.Nat.{ℕ}
use Rattle.octets.specs.Output.{fronted}
use Rattle.event_log.specs.Held.{lent_log}
use Rattle.note_commands.specs.NoteCommands.{note_reply}
use Rattle.note_commands.proofs.Answering.{refusal-left, reply-left}
use Rattle.note_commands.proofs.command_notes.Goals as goal

pub returns-in-Err : goal.returns-in-Err
returns-in-Err c =
    let g = c.args in
    refusal-left (lent_log g.log g.events.now) g.image.now g.numbers g.desk g.command.now g.output.now _ _ c.in-Err.ensures c.refused.ensures

pub returns-in-Ok : goal.returns-in-Ok
returns-in-Ok c =
    let g = c.args in
    let log = lent_log g.log g.events.now in
    let j = c.in-Ok.ensures in
    reply-left log g.image.now g.numbers g.desk g.command.now g.output.now _ _ j.0 j.1
    (c.write_reply.ensures ∙ ap (λ (t : ℕ). fronted (note_reply log t) g.output.now) c.octet_at.ensures)
