-- `narrowed` is right because each word that is folded makes the same of a register of zeros as the words that it was folded of.
-- Assumes nothing.
use mathlib.Core.Path.{ap, ◌∙◌}
use Prim.Native.Nat.{ℕ}
use Rattle.check_field.specs.Register.{after_bits}
use Rattle.check_field.proofs.wide.narrowed.Goals as goal

pub returns : goal.returns
returns c = let v = c.args.register in
    c.enter_word.ensures
    ∙ c.folded.ensures
    ∙ ap (λ (r : ℕ). after_bits 64 r v.fourth) (c.folded-third.ensures ∙ ap (λ (r : ℕ). after_bits 64 r v.third) c.folded-second.ensures)
