-- `header_length` is right because it reads the flag and the length field where the definition does.
-- Assumes nothing.
use Prim.Native.Nat.{◌/◌}
use native.Mathlib.Omega.{arith}
use Rattle.octets.specs.Lists.{octet}
use borrow.Author.Tests.{eq-eqb, ne_eqb}
use Rattle.telemetry.proofs.Tm.header_length.Goals as goal

pub returns-then-octet_at-eq0 : goal.returns-then-octet_at-eq0
returns-then-octet_at-eq0 c = let flag = octet c.args.frame.now 4 in
    rw (eq-eqb (flag / 128) 0 (omega (arith, c.octet_at.ensures)))

pub returns : goal.returns
returns c = let flag = octet c.args.frame.now 4 in
    rw (ne_eqb (flag / 128) 0 (λ e. omega (arith, c.octet_at.ensures)))
    (omega (arith, c.octet_at-2.ensures))
