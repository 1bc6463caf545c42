-- `mac` is right because `mac_under` is, under the expansion of the key.
-- Assumes nothing.
use mathlib.Core.List.{◌++◌}
use Rattle.cmac.proofs.Chaining.{mac-keyed}
use Rattle.cmac.proofs.mac.Goals as goal

pub returns : goal.returns
returns c = let given = c.args in
    mac-keyed given.key (given.head.now ++ given.body.now) c.expand_key-expanded.ensures c.mac_under.ensures
