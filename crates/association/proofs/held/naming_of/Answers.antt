-- `naming_of` is right because the layout of the version decides.
-- Assumes nothing.
use mathlib.Core.Path.{sym, ◌∙◌, ap}
use Rattle.bodies.specs.declared.layout.Layout.{Layout}
use Rattle.bodies.specs.Layout.{layout_of}
use Rattle.association.specs.Association.{naming_of}
use Rattle.association.proofs.held.naming_of.Goals as goal

pub returns-then-layout_of : goal.returns-then-layout_of
unfolding naming_of
returns-then-layout_of c = let e = sym (ap (λ (l : Layout). l.keys) (c.layout_of.ensures.0 ∙ ap layout_of c.version_of.ensures)) ∙ c.if-layout_of.true in
    simp e c.spi_of.ensures

pub returns : goal.returns
unfolding naming_of
returns c = let e = sym (ap (λ (l : Layout). l.keys) (c.layout_of.ensures.0 ∙ ap layout_of c.version_of.ensures)) ∙ c.if-layout_of.false in
    simp e
