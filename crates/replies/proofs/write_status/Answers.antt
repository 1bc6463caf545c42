-- `write_status` is right because it puts the reply of the SPI that the value names and the state of the entry.
-- Assumes nothing.
use mathlib.Core.Path.{ap, ap₂, ◌∙◌}
use mathlib.Core.List.{List, [], ◌∷◌, ◌++◌}
use Prim.Native.Nat.{ℕ}
use Rattle.octets.specs.Numbers.{bytes}
use Rattle.octets.specs.Output.{fronted}
use Rattle.command_form.specs.Form.{spi_length, reply_to}
use Rattle.replies.proofs.write_status.Goals as goal

pub returns : goal.returns
returns c = let g = c.args in
    c.put.ensures
    ∙ ap (λ (t : List ℕ). fronted t g.output.now)
    (c.status_reply.ensures
    ∙ ap₂ (λ (spi state : ℕ). reply_to 0x1F (bytes spi_length spi ++ (state ∷ []))) c.spi_named.ensures c.state_at.ensures)
