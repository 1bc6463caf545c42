-- `load_lent` is right because with 32 numbers it is the module's load, and with another count the refusal.
-- Assumes nothing.
use Prim.Native.Nat.{ℕ}
use mathlib.Core.Path.{ap, ◌∙◌}
use mathlib.Core.List.{[]}
use Rattle.link.specs.Calls.{loaded}
use Rattle.lent.specs.Word.{word}
use Rattle.lent.proofs.Returning.{returned, miscounted}
use Rattle.lent_calls.specs.LentCalls.{load_call}
use Rattle.lent_calls.proofs.load_lent.Goals as goal

pub returns-then-numbers-ne32 : goal.returns-then-numbers-ne32
unfolding load_call
returns-then-numbers-ne32 c = let g = c.args in
    miscounted (loaded g.image.now) g.image.now g.numbers.now []
    c.if-numbers-ne32.true
    (c.word.ensures ∙ ap (λ (a : ℕ). word a 0 0) c.count_answer.ensures)

pub returns : goal.returns
unfolding load_call
returns c = let g = c.args in
    returned (loaded g.image.now) g.image.now g.numbers.now []
    c.load.result
    c.if-numbers-ne32.false
    c.numbers_in.ensures
    c.load.ensures
    c.returned.ensures
