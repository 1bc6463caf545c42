-- `two_at` is right because the number of two octets is 256 times the first and the second.
-- Assumes nothing.
use native.Mathlib.Omega.{arith}
use Rattle.octets.proofs.Reading.{number_at-two}
use Rattle.octets.proofs.two_at.Goals as goal

pub returns : goal.returns
returns c = let given = c.args in
    rw (number_at-two given.at given.s.now) (omega arith)
