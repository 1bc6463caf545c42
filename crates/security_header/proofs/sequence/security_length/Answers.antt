-- `security_length` is right because service 2 has a field of twelve octets and service 1 one of four.
-- Assumes nothing.
use mathlib.Core.Path.{refl}
use lib.Dec.{lit≤}
use Rattle.services.proofs.Chosen.{encrypts, signs}
use Rattle.security_header.proofs.sequence.security_length.Goals as goal

pub returns-then-number-eq2 : goal.returns-then-number-eq2
returns-then-number-eq2 c = rw (encrypts _ c.if-number-eq2.true) (refl, lit≤ tt, lit≤ tt)

pub returns-else-number-eq2 : goal.returns-else-number-eq2
returns-else-number-eq2 c = rw (signs _ c.if-number-eq2.false) (refl, lit≤ tt, lit≤ tt)
