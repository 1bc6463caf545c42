-- `mac_under` is right because after i turns it holds C_i, as far as its subkeys are those of the expanded key.
-- Assumes nothing.
use mathlib.Core.Path.{◌∙◌, refl}
use native.Mathlib.Omega.{arith}
use lib.ListN.{length-append}
use Rattle.octets.specs.Lists.{tab}
use Rattle.columns.specs.Columns.{state_from}
use Rattle.cmac.specs.Mac.{chain}
use Rattle.cmac.proofs.Chaining.{first-is, second_is, chain_more, chain-all}
use borrow.Author.Rules.{rules}
use Rattle.cmac.proofs.mac_under.Goals as goal

pub loop-i-init : goal.loop-i-init
unfolding chain tab state_from
loop-i-init c = λ e1 e2. refl

pub message_words-block-requires : goal.message_words-block-requires
message_words-block-requires c = simp length-append (omega arith)

pub loop-i-preserved : goal.loop-i-preserved
loop-i-preserved c = λ e1 e2.
    chain_more _ _ _ e1 e2 (c.loop-i.invariant e1 e2) c.message_words-block.ensures
    c.sum.ensures
    c.encrypt_words-next.ensures

pub returns : goal.returns
unfolding tab
returns c = let at-loop = c.loop-i in
    let given = c.args in
    let w = given.expanded.now in
    let e1 = first-is w c.encrypt_block.ensures c.next_subkey-first.ensures in
    let e2 = second_is w e1 c.next_subkey-second.ensures in
    c.octets_of.ensures
    ∙ chain-all w given.head.now given.body.now c.block_count-count.ensures (omega arith) (at-loop.invariant e1 e2)

pub overflow_add-head : goal.overflow_add-head
overflow_add-head c = search
    rules
