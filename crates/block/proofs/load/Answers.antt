-- `load` is right because sixteen octets are two words of eight, and past the end all are 0.
-- Assumes nothing.
use mathlib.Core.Path.{sym, ap₂, ◌∙◌}
use Prim.Native.Nat.{ℕ, ◌+◌, ◌*◌, ◌^◌}
use Rattle.octets.proofs.Reading.{number_at_past}
use Rattle.block.proofs.Halves.{number_halves}
use Rattle.block.proofs.load.Goals as goal

pub returns-then-s-at : goal.returns-then-s-at
returns-then-s-at c = sym (number_at_past c.args.at 16 c.args.s.now c.if-s-at.true)

pub returns-then-s-at-ge16 : goal.returns-then-s-at-ge16
returns-then-s-at-ge16 c = let given = c.args in
    ap₂ (λ (a b : ℕ). a * 2 ^ 64 + b) c.word_inside.ensures c.word_inside-then-s-at-ge16.ensures ∙ number_halves given.at given.s.now

pub returns : goal.returns
returns c = let given = c.args in
    ap₂ (λ (a b : ℕ). a * 2 ^ 64 + b) c.word.ensures c.word-lo.ensures ∙ number_halves given.at given.s.now
