-- `check` is right because `check_under` is, under the expansion of the key.
-- Assumes nothing.
use mathlib.Core.List.{◌++◌}
use Rattle.cmac.proofs.Chaining.{check-keyed}
use Rattle.cmac.proofs.check.Goals as goal

pub returns : goal.returns
returns c = let given = c.args in
    check-keyed given.key (given.head.now ++ given.body.now) c.expand_key-expanded.ensures given.mac c.check_under.ensures
