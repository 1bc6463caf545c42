-- `make_all` is right because the first so many stores of a plan as it has are all of them.
-- Assumes nothing.
use mathlib.Core.Path.{ap, ◌∙◌}
use lib.ListN.{length}
use Rattle.marks.specs.Stores.{stores_in, store_at, stored}
use Rattle.marks.proofs.Made.{all_first, length-steps}
use Rattle.marks.proofs.plans.make_all.Goals as goal

pub returns : goal.returns
returns c = let g = c.args in
    let all = all_first g.plan c.stores_in.result c.stores_in.ensures in (
      c.make.ensures.0 ∙ ap length all ∙ length-steps (store_at g.plan) (stores_in g.plan),
      c.make.ensures.1 ∙ ap (stored g.image.now) all,
    )
