-- `message_block` is right because each way out is one of the three kinds of block: one with more after it, a last one that is complete, and
-- a last one that is short, whose zeros past the end of the message are the zeros of the padding.
-- Assumes nothing.
-- the block starts within the message
use mathlib.Core.Path.{◌∙◌, ap}
use mathlib.Core.List.{List, ◌++◌}
use Prim.Native.Nat.{ℕ, ◌+◌, ◌-◌, ◌*◌, ◌≤◌}
use native.Mathlib.Omega.{arith}
use lib.ListN.{length, set, length-append}
use Rattle.octets.specs.Xor.{xors}
use Rattle.message_blocks.proofs.Cuts.{starts, inner_block, whole-block, short_block}
use Rattle.message_blocks.proofs.message_block.Goals.{Start}
use Rattle.message_blocks.proofs.message_block.Goals as goal

begins : (c : Start) → 16 * c.args.i ≤ length c.args.head.now + length c.args.body.now
begins c = starts c.args.head.now c.args.body.now c.args.i c.requires

pub gathered-out-requires : goal.gathered-out-requires
gathered-out-requires c = omega (arith, begins (goal.at.gathered-out-requires c).Start)

pub overflow_mul-rest : goal.overflow_mul-rest
overflow_mul-rest c = record { fits = omega (arith, begins (goal.at.overflow_mul-rest c).Start) }

pub overflow_sub-rest : goal.overflow_sub-rest
overflow_sub-rest c = omega (arith, begins (goal.at.overflow_sub-rest c).Start)

pub returns-then-rest-gt16 : goal.returns-then-rest-gt16
returns-then-rest-gt16 c = let given = c.args in
    let head = given.head.now in
    let body = given.body.now in
    c.gathered-out.ensures ∙ inner_block (head ++ body) given.i given.first given.second (omega (arith, length-append head body))

pub returns-then-rest-eq16 : goal.returns-then-rest-eq16
returns-then-rest-eq16 c = let given = c.args in
    let head = given.head.now in
    let body = given.body.now in
    c.xors.ensures ∙ ap (xors 16 given.first) c.gathered-out.ensures
    ∙ whole-block (head ++ body) given.i given.first given.second c.requires (omega (arith, begins (goal.at.returns-then-rest-eq16 c).Start, length-append head body))

pub returns : goal.returns
returns c = let given = c.args in
    let head = given.head.now in
    let body = given.body.now in
    let rest : ℕ = length head + length body - 16 * given.i in
    c.xors-2.ensures ∙ ap (λ (l : List ℕ). xors 16 given.second (set l rest 0x80)) c.gathered-out.ensures
    ∙ short_block (head ++ body) given.i given.first given.second c.requires rest (omega arith)
    (omega (arith, begins (goal.at.returns c).Start, length-append head body))
