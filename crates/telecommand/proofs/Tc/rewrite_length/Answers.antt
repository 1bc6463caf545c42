-- `rewrite_length` is right because it stores the two octets that the definition replaces, and stores none where the list ends before them.
-- Assumes nothing.
use mathlib.Core.Path.{sym}
use native.Mathlib.Omega.{arith}
use borrow.Author.Tests.{lt-ltb, le-ltb}
use Rattle.headers.specs.Telecommand.{tc_with_length}
use Rattle.telecommand.proofs.Tc.rewrite_length.Goals as goal

pub overflow_mul-frame : goal.overflow_mul-frame
overflow_mul-frame c = omega (arith, c.slice_known-then-frame-gt3-1.given 2)

pub overflow_add-frame : goal.overflow_add-frame
overflow_add-frame c = omega (arith, c.slice_known-then-frame-gt3-1.given 2)

pub returns-then-frame-gt3 : goal.returns-then-frame-gt3
unfolding tc_with_length
returns-then-frame-gt3 c = (sym (lt-ltb _ _ c.if-frame-gt3.true), rw (lt-ltb _ _ c.if-frame-gt3.true) cc)

pub returns : goal.returns
unfolding tc_with_length
returns c = (sym (le-ltb _ _ c.if-frame-gt3.false), simp (le-ltb _ _ c.if-frame-gt3.false))
