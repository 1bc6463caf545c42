-- `write_keys` is right because it writes the inventory that the value asks for.
-- Assumes nothing.
use mathlib.Core.Path.{ap, ◌∙◌}
use mathlib.Core.List.{List}
use Prim.Native.Nat.{ℕ}
use Rattle.octets.specs.Output.{fronted}
use Rattle.replies.proofs.ReplyOctets.{keys-asked}
use Rattle.replies.proofs.write_keys.Goals as goal

pub returns : goal.returns
returns c = let g = c.args in
    c.write_inventory.ensures
    ∙ ap (λ (t : List ℕ). fronted t g.output.now)
    (keys-asked g.image.now g.value.now c.part_at.ensures.0 c.key_count.ensures c.two_at.ensures c.two_at-2.ensures)
