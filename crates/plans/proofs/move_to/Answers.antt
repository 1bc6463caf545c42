-- `move_to` is right because its plan is the one store.
-- Assumes nothing.
use mathlib.Core.Path.{ap}
use mathlib.Core.List.{[], ◌∷◌}
use Rattle.marks.specs.Stores.{steps}
use Rattle.marks.specs.declared.plans.Store.{Store}
use Rattle.plans.proofs.move_to.Goals as goal

pub returns : goal.returns
unfolding steps
returns c = ap (λ (s : Store). s ∷ []) c.octet_in.ensures
