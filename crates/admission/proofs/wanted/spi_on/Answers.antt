-- `spi_on` is right because the SPI stands where the kind's header ends; a number that names no kind has no header.
-- Assumes nothing.
use mathlib.Core.Path.{sym, ap, ◌∙◌}
use Prim.Native.Nat.{ℕ}
use Rattle.std.specs.Prelude.{Option}
use Rattle.octets.specs.Numbers.{number_at}
use Rattle.kinds.specs.Kinds.{kind_behind}
use Rattle.kinds.specs.declared.kinds.Kind as code
use Rattle.admission.proofs.wanted.spi_on.Goals as goal

pub returns-in-Some : goal.returns-in-Some
returns-in-Some c = let frame = c.args.frame.now in
    c.two_at.ensures
    ∙ ap (λ (x : ℕ). number_at x 2 frame) c.header_length.ensures
    ∙ ap (λ (n : Option code.Kind). number_at ((kind_behind n).header frame) 2 frame) (sym c.in-Some.is)

pub returns-in-None : goal.returns-in-None
returns-in-None c = let frame = c.args.frame.now in
    c.two_at-in-None.ensures ∙ ap (λ (n : Option code.Kind). number_at ((kind_behind n).header frame) 2 frame) (sym c.in-None.is)
