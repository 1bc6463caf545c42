-- `message_words` is right because a block that lies whole in the body with more after it has its octets from there, and any other is made
-- octet by octet.
-- Assumes nothing.
-- the block starts within the message
use mathlib.Core.Path.{refl, ◌∙◌}
use mathlib.Core.List.{◌++◌}
use Prim.Native.Nat.{◌+◌, ◌*◌, ◌≤◌}
use native.Mathlib.Omega.{arith}
use lib.ListN.{length, length-append}
use Rattle.message_blocks.proofs.Cuts.{starts, inner_block, in_body}
use Rattle.message_blocks.proofs.message_words.Goals.{Start}
use Rattle.message_blocks.proofs.message_words.Goals as goal

begins : (c : Start) → 16 * c.args.i ≤ length c.args.head.now + length c.args.body.now
begins c = starts c.args.head.now c.args.body.now c.args.i c.requires

pub overflow_mul-i : goal.overflow_mul-i
overflow_mul-i c = record { fits = omega (arith, begins (goal.at.overflow_mul-i c).Start) }

pub overflow_mul-at : goal.overflow_mul-at
overflow_mul-at c = record { fits = omega (arith, begins (goal.at.overflow_mul-at c).Start) }

pub returns-then-body-at-gt16 : goal.returns-then-body-at-gt16
returns-then-body-at-gt16 c = let given = c.args in
    let head = given.head.now in
    let body = given.body.now in
    c.words_at.ensures ∙ in_body head body given.i _ (omega arith) refl
    ∙ inner_block (head ++ body) given.i given.first given.second (omega (arith, length-append head body))

pub returns : goal.returns
returns c = c.words_of.ensures ∙ c.message_block.ensures
