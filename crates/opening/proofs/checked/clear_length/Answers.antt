-- `clear_length` is right because the text is what lies between the security header and the MAC.
-- Assumes nothing.
use native.Mathlib.Omega.{arith}
use Rattle.opening.proofs.Reading.{placed, text-long}
use Rattle.opening.proofs.checked.clear_length.Goals as goal

pub overflow_sub-result : goal.overflow_sub-result
overflow_sub-result c = omega (arith, placed c.args.opening c.args.frame.now c.requires)

pub returns : goal.returns
returns c = text-long c.args.opening c.args.frame.now c.requires
