-- `field_octets` is right because std writes the octets of a number in the same order.
-- Assumes nothing.
use mathlib.Core.Path.{ap, ◌∙◌}
use Rattle.octets.specs.Numbers.{bytes}
use Rattle.octets.proofs.Numbers.{bytes-std}
use Rattle.check_field.proofs.field_octets.Goals as goal

pub returns : goal.returns
returns c = c.to_be_bytes.ensures ∙ bytes-std 2 c.check_field.result ∙ ap (bytes 2) c.check_field.ensures
