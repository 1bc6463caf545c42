-- `keys_size` is right because it asks for the size of the inventory that the value asks for.
-- Assumes nothing.
use mathlib.Core.Path.{ap, ◌∙◌}
use mathlib.Core.List.{List}
use Prim.Native.Nat.{ℕ}
use lib.ListN.{length}
use Rattle.replies.proofs.ReplyOctets.{keys-asked}
use Rattle.replies.proofs.keys_size.Goals as goal

pub returns : goal.returns
returns c = let g = c.args in
    c.inventory_size.ensures
    ∙ ap (λ (t : List ℕ). length t)
    (keys-asked g.image.now g.value.now c.part_at.ensures.0 c.key_count.ensures c.two_at.ensures c.two_at-2.ensures)
