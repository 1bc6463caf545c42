-- `four_at` is right because four octets are two pairs.
-- Assumes nothing.
use mathlib.Core.Path.{◌≡◌}
use Prim.Native.Nat.{◌+◌}
use native.Mathlib.Omega.{arith}
use Rattle.octets.proofs.Reading.{number_at-add, number_at-two}
use Rattle.octets.proofs.four_at.Goals as goal

pub returns : goal.returns
returns c = let given = c.args in
    let at = given.at in
    let s = given.s.now in
    let last : at + 2 + 1 ≡ at + 3 = omega arith in
    rw (number_at-add at 2 2 s, number_at-two at s, number_at-two (at + 2) s, last) (omega arith)
