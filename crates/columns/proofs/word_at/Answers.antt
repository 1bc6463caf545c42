-- `word_at` is right because it joins the four octets from the place on.
-- Assumes nothing.
use mathlib.Core.Path.{refl, ap}
use Prim.Native.Nat.{ℕ, ◌+◌}
use native.Mathlib.Omega.{arith}
use Rattle.octets.specs.Lists.{octet}
use Rattle.columns.proofs.Columns.{renamed}
use Rattle.columns.proofs.word_at.Goals as goal

pub returns : goal.returns
returns c = let given = c.args in
    let place : ℕ = given.at in
    renamed (λ i. octet given.s.now (place + i)) c.joined.ensures (ap (octet given.s.now) (omega arith)) refl refl refl
