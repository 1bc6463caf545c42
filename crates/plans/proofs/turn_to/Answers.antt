-- `turn_to` is right because its plan is the one store, of the state of the key that the search finds.
-- Assumes nothing.
use mathlib.Core.Path.{ap, ap₂, ◌∙◌}
use mathlib.Core.List.{[], ◌∷◌}
use Prim.Native.Nat.{ℕ}
use Rattle.keys.specs.Keys.{key_state_place}
use Rattle.image.specs.Image.{key_with}
use Rattle.marks.specs.Stores.{steps}
use Rattle.plans.proofs.turn_to.Goals as goal

pub returns : goal.returns
unfolding steps
returns c = let g = c.args in
    ap (λ (p : ℕ). record { at = p; value = g.state } ∷ [])
    (c.key_state_place.ensures
    ∙ ap₂ key_state_place c.part_at.ensures.0
    (c.key_with-key.ensures ∙ ap (key_with g.image.now) c.two_at.ensures))
