-- `raise` is right because it makes the first j of the stores that the plan names.
-- Assumes nothing.
use Rattle.numbers.specs.Stores.{stores_made, after_stores}
use Rattle.numbers.proofs.stores.raise.Goals as goal

pub returns : goal.returns
unfolding stores_made after_stores
returns c = rw (← c.plan_for.ensures) c.make.ensures
