-- `number_in` is right because under service 2 the first four octets of the field are compared with what names the association, and eight octets are two words of four.
-- Assumes nothing.
use mathlib.Core.Path.{sym, ◌∙◌}
use native.Mathlib.Omega.{arith}
use Rattle.services.proofs.Chosen.{encrypts, signs}
use Rattle.security_header.proofs.Fields.{read_named, read_other, read_short}
use borrow.Author.Rules.{rules}
use Rattle.security_header.proofs.sequence.number_in.Goals as goal

pub returns-then-first-naming : goal.returns-then-first-naming
returns-then-first-naming c = let g = c.args in
    let e = sym c.four_at-first.ensures ∙ c.if-first-naming.true in
    rw (encrypts g.number c.if-number-eq2.true, read_named g.naming (search rules) g.security.now e)
    (omega (arith, c.join.ensures, c.four_at-then-first-naming.ensures, c.four_at.ensures))

pub returns-then-number-eq2 : goal.returns-then-number-eq2
returns-then-number-eq2 c = let g = c.args in
    rw (encrypts g.number c.if-number-eq2.true, read_other g.naming (search rules) g.security.now (λ e. c.if-first-naming.false (c.four_at-first.ensures ∙ e)))
    c.join-then-number-eq2.ensures

pub returns : goal.returns
returns c = let g = c.args in
    rw (signs g.number c.if-number-eq2.false, read_short) (omega (arith, c.join-2.ensures, c.four_at-first.ensures))
