-- `change_window` is right because its plan is the two stores, the high octet's first.
-- Assumes nothing.
use mathlib.Core.Path.{ap, ap₂, ◌∙◌}
use mathlib.Core.List.{[], ◌∷◌}
use Prim.Native.Nat.{◌+◌}
use Rattle.bodies.specs.Layout.{window_place}
use Rattle.marks.specs.Stores.{steps}
use Rattle.marks.specs.declared.plans.Store.{Store}
use Rattle.procedures.specs.Procedures.{octet_in}
use Rattle.plans.proofs.change_window.Goals as goal

pub returns : goal.returns
unfolding steps
returns c = let g = c.args in
    ap₂ (λ (s t : Store). s ∷ t ∷ [])
    (c.octet_in.ensures ∙ ap (octet_in g.image.now g.entry window_place) c.octet_at.ensures)
    (c.octet_in-2.ensures ∙ ap (octet_in g.image.now g.entry (window_place + 1)) c.octet_at-2.ensures)
