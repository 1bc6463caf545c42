-- `change_key` is right because its plan is the octets of the ID, then the state; without a key part the state alone.
-- Assumes nothing.
use mathlib.Core.Path.{◌≡◌, sym, ap, ap₂, ◌∙◌}
use mathlib.Core.List.{List, [], ◌∷◌}
use Prim.Native.Nat.{ℕ, ◌+◌}
use Rattle.bodies.specs.Layout.{layout_of}
use Rattle.bodies.specs.declared.layout.Layout.{Layout}
use Rattle.image.specs.Image.{layout}
use Rattle.marks.specs.Stores.{steps}
use Rattle.marks.specs.declared.plans.Store.{Store}
use Rattle.procedures.specs.Procedures.{octet_in}
use Rattle.plans.proofs.change_key.Goals as goal

pub returns-then-has_part : goal.returns-then-has_part
unfolding steps
returns-then-has_part c = let g = c.args in
    let key : c.layout_of-at.result.key ≡ (layout g.image.now).key =
    ap (λ (l : Layout). l.key) (c.layout_of-at.ensures.0 ∙ ap layout_of c.version_of.ensures)
    in
    simp (sym c.has_part.ensures ∙ c.if-has_part.true)
    (ap₂ (λ (s : Store) (r : List Store). s ∷ r)
    (c.octet_in.ensures ∙ ap₂ (octet_in g.image.now g.entry) key c.octet_at.ensures)
    (ap₂ (λ (s t : Store). s ∷ t ∷ [])
    (c.octet_in-then-has_part.ensures ∙ ap₂ (λ (p v : ℕ). octet_in g.image.now g.entry (p + 1) v) key c.octet_at-then-has_part.ensures)
    c.octet_in-then-has_part-2.ensures))

pub returns : goal.returns
returns c = simp (sym c.has_part.ensures ∙ c.if-has_part.false) c.move_to.ensures
