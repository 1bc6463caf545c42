-- `secured_parts` is right because each of its numbers is one that the definition names, and a header is short, so no sum wraps.
-- Assumes nothing.
use native.Mathlib.Omega.{arith}
use Rattle.kinds.proofs.Sizes.{header_short}
use Rattle.frame.proofs.parts.secured_parts.Goals as goal

pub overflow_add-result : goal.overflow_add-result
overflow_add-result c = let given = c.args in
    record { fits = omega (arith, header_short given.framing.kind given.frame.now) }

pub returns : goal.returns
returns c = rw (c.saturating_sub.ensures, c.saturating_sub-mac.ensures, c.trailer_length.ensures, c.header_length-header.ensures)
