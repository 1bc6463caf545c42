-- `too_short` is right because it compares the two numbers that the definition compares, and header and trailer are short, so no sum wraps.
-- Assumes nothing.
use Prim.Native.Nat.{◌<◌}
use native.Mathlib.Omega.{arith}
use Rattle.kinds.proofs.Sizes.{header_short, trailer_short}
use Rattle.frame.proofs.parts.too_short.Goals.{After-trailer_length-trailer}
use Rattle.frame.proofs.parts.too_short.Goals as goal

bounds : (c : After-trailer_length-trailer) → (c.header_length-header.result < 256) × (c.trailer_length-trailer.result < 256)
bounds c =
    let given = c.args in
    (omega (arith, header_short given.framing.kind given.frame.now), omega (arith, trailer_short given.framing given.frame.now))

pub overflow_add-result : goal.overflow_add-result
overflow_add-result c = record { fits = omega (arith, bounds c) }

pub overflow_add-result-2 : goal.overflow_add-result-2
overflow_add-result-2 c = record { fits = omega (arith, bounds c) }

pub overflow_add-result-3 : goal.overflow_add-result-3
overflow_add-result-3 c = record { fits = omega (arith, bounds c) }

pub overflow_add-result-4 : goal.overflow_add-result-4
overflow_add-result-4 c = record { fits = omega (arith, bounds c) }

pub returns : goal.returns
returns c = rw (c.trailer_length-trailer.ensures, c.header_length-header.ensures)
