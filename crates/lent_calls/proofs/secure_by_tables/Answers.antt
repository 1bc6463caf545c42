-- `secure_by_tables` is right because with 32 numbers it is the module's securing, and with another count the refusal.
-- Assumes nothing.
use Prim.Native.Nat.{ℕ}
use mathlib.Core.Path.{ap, ◌∙◌}
use mathlib.Core.List.{List}
use Rattle.link.specs.Calls.{secured}
use Rattle.lent.specs.Interface.{told}
use Rattle.lent.specs.Word.{word}
use Rattle.lent.proofs.Returning.{returned, miscounted}
use Rattle.lent_calls.specs.LentCalls.{secure_call}
use Rattle.lent_calls.proofs.secure_by_tables.Goals as goal

pub returns-then-numbers-ne32 : goal.returns-then-numbers-ne32
unfolding secure_call
returns-then-numbers-ne32 c = let g = c.args in
    miscounted (λ (n : List ℕ). secured g.image.now n (told g.desk g.kind g.field) g.spi g.frame.now g.output.now)
    g.image.now g.numbers.now g.output.now
    c.if-numbers-ne32.true
    (c.word.ensures ∙ ap (λ (a : ℕ). word a 0 0) c.count_answer.ensures)

pub returns : goal.returns
unfolding secure_call
returns c = let g = c.args in
    returned (λ (n : List ℕ). secured g.image.now n (told g.desk g.kind g.field) g.spi g.frame.now g.output.now)
    g.image.now g.numbers.now g.output.now
    c.secure_by.result
    c.if-numbers-ne32.false
    c.numbers_in-given.ensures
    c.secure_by.ensures
    c.returned.ensures
