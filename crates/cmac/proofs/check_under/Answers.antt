-- `check_under` is right because the MAC that it compares with is that of the message.
-- Assumes nothing.
use mathlib.Core.Path.{◌∙◌, ap}
use mathlib.Core.List.{List}
use Prim.Native.Nat.{ℕ}
use Rattle.octets.specs.Same.{same}
use Rattle.cmac.proofs.check_under.Goals as goal

pub returns : goal.returns
returns c = let given = c.args in
    c.same_block.ensures ∙ ap (λ (x : List ℕ). same x given.mac) c.mac_under.ensures
