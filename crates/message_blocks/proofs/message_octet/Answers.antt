-- `message_octet` is right because a place in the head is that place of the message, and one past the head is as far into the body.
-- Assumes nothing.
use mathlib.Core.Path.{sym, ◌∙◌}
use native.Mathlib.Omega.{arith}
use lib.ListN.{get_or-append}
use Rattle.octets.proofs.Parts.{octet_past}
use Rattle.message_blocks.proofs.message_octet.Goals as goal

pub returns-then-i-head : goal.returns-then-i-head
returns-then-i-head c = let given = c.args in
    sym (get_or-append given.head.now given.body.now 0 given.i (omega arith))

pub returns : goal.returns
returns c = let given = c.args in
    c.octet_at.ensures ∙ sym (octet_past given.head.now given.body.now given.i (omega arith))
