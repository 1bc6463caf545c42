-- `spi_received` is right because the caller's number names the kind whose header ends where the SPI stands, and a check field moves no header.
-- Assumes nothing.
use mathlib.Core.Path.{ap, ◌∙◌}
use Rattle.std.specs.Prelude.{Option}
use Rattle.kinds.specs.Kinds.{kind_behind}
use Rattle.kinds.specs.declared.kinds.Kind as code
use Rattle.protection.specs.Protection.{spi_in}
use Rattle.admission.proofs.wanted.spi_received.Goals as goal

pub returns : goal.returns
returns c = c.spi_on.ensures ∙ ap (λ (n : Option code.Kind). spi_in (kind_behind n) c.args.frame.now) c.kind_of.ensures
