use mathlib.Core.Path.{◌≡◌}
use mathlib.Core.Bool.{◌&&◌}
use Rattle.octets.specs.Lists.{all}
use Rattle.bodies.specs.Body.{body_ok}
use Rattle.image.specs.Image.{version_of, spi_before, body_of, entry_ok}
use Rattle.image.proofs.image.entries_ok.Given as goal

abbrev pub invariant-loop-i : goal.invariant-loop-i
invariant-loop-i l = (l.before ≡ spi_before l.image l.i) × (l.ok ≡ all l.i (λ j. entry_ok l.image j && body_ok (version_of l.image) (body_of l.image j)))
