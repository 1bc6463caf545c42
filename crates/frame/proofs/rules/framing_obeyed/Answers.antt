-- `framing_obeyed` is right because it joins the four tests that the definition joins, and header and trailer are short, so no sum wraps.
-- Assumes nothing.
use Prim.Native.Nat.{◌<◌}
use mathlib.Core.Bool.{Bool, true, false}
use native.Mathlib.Omega.{arith}
use Rattle.kinds.proofs.Sizes.{header_short, trailer_short}
use Rattle.frame.specs.Rules.{least, obeys}
use Rattle.frame.proofs.rules.framing_obeyed.Goals as goal

least-short : (secured : Bool) → least secured < 256
least-short true = omega arith
least-short false = omega arith

pub overflow_add-least : goal.overflow_add-least
overflow_add-least c = let given = c.args in
    record { fits = omega (arith, header_short given.framing.kind given.frame.now, least-short given.secured) }

pub overflow_add-least-2 : goal.overflow_add-least-2
overflow_add-least-2 c = let given = c.args in
    let header = header_short given.framing.kind given.frame.now in
    let trailer = trailer_short given.framing given.frame.now in
    record { fits = omega (arith, header, least-short given.secured, trailer) }

pub returns : goal.returns
unfolding obeys
returns c = rw (
  c.largest.ensures,
  c.counts_length.ensures,
  c.keeps_rules.ensures,
  c.trailer_length.ensures,
  c.least_between.ensures,
  c.header_length.ensures,
)
