-- `write_number` is right because it puts the reply of the SPI that the value names and the number.
-- Assumes nothing.
use mathlib.Core.Path.{ap, ◌∙◌}
use mathlib.Core.List.{List, ◌++◌}
use Prim.Native.Nat.{ℕ}
use Rattle.octets.specs.Numbers.{bytes}
use Rattle.octets.specs.Output.{fronted}
use Rattle.command_form.specs.Form.{spi_length, number_length, reply_to}
use Rattle.replies.proofs.write_number.Goals as goal

pub returns : goal.returns
returns c = let g = c.args in
    c.put.ensures
    ∙ ap (λ (t : List ℕ). fronted t g.output.now)
    (c.number_reply.ensures
    ∙ ap (λ (spi : ℕ). reply_to 0x10 (bytes spi_length spi ++ bytes number_length g.last)) c.spi_named.ensures)
