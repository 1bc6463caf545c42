-- `admit_receiving` is right because the SPI that is asked for is the one on the frame.
-- Assumes nothing.
use mathlib.Core.Path.{ap, ◌∙◌, subst}
use mathlib.Core.Bool.{true}
use Prim.Native.Nat.{ℕ}
use Rattle.std.specs.Prelude.{Option}
use Rattle.kinds.specs.Kinds.{kind_behind}
use Rattle.kinds.specs.declared.kinds.Kind as code
use Rattle.protection.specs.Protection.{spi_in}
use Rattle.judging.specs.Verdicts.{Admitted}
use Rattle.judging.specs.Wants.{receiving, wanted}
use Rattle.admission.proofs.admission.admit_receiving.Goals as goal

pub returns : goal.returns
returns c = let g = c.args in
    subst
    (λ (x : ℕ). Admitted c.admit.result g.image.now g.numbers.last (wanted x receiving g.said g.frame.now) g.said true g.frame.now)
    (c.spi_on-spi.ensures ∙ ap (λ (n : Option code.Kind). spi_in (kind_behind n) g.frame.now) c.kind_of-asked.ensures) c.admit.ensures
