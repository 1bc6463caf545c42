-- `layout_of` is right because for each version its record is that of the definition, which is lawful.
-- Assumes nothing.
use borrow.Author.Tests.{eq-eqb, ne_eqb}
use Rattle.bodies.specs.Layout.{layout_of}
use Rattle.bodies.proofs.Layouts.{lawful}
use Rattle.bodies.proofs.layout.layout_of.Goals as goal

pub returns-then-version-eq4 : goal.returns-then-version-eq4
unfolding layout_of
returns-then-version-eq4 c = let e = eq-eqb _ _ c.if-version-eq4.true in (simp e, simp e at (lawful c.args.version))

pub returns-then-version-eq3 : goal.returns-then-version-eq3
unfolding layout_of
returns-then-version-eq3 c = let e = ne_eqb _ _ c.if-version-eq4.false in
    let f = eq-eqb _ _ c.if-version-eq3.true in
    (simp (e, f), simp (e, f) at (lawful c.args.version))

pub returns-then-version-eq2 : goal.returns-then-version-eq2
unfolding layout_of
returns-then-version-eq2 c = let d = ne_eqb _ _ c.if-version-eq4.false in
    let e = ne_eqb _ _ c.if-version-eq3.false in
    let f = eq-eqb _ _ c.if-version-eq2.true in
    (simp (d, e, f), simp (d, e, f) at (lawful c.args.version))

pub returns : goal.returns
unfolding layout_of
returns c = let d = ne_eqb _ _ c.if-version-eq4.false in
    let e = ne_eqb _ _ c.if-version-eq3.false in
    let f = ne_eqb _ _ c.if-version-eq2.false in
    (simp (d, e, f), simp (d, e, f) at (lawful c.args.version))
