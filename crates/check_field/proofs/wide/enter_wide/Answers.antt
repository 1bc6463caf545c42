-- `enter_wide` is right because x^256 = x^192 + x^80 + 1 modulo G.
-- Assumes nothing.
use borrow.Author.Rules.{rules}
use Rattle.check_field.proofs.Words.{word_more}
use Rattle.check_field.proofs.wide.enter_wide.Goals as goal

pub returns : goal.returns
returns c = let given = c.args in
    let v = given.register in
    word_more v.first (search rules) v.second v.third v.fourth given.word
