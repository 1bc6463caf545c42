-- `body_inside_ok` is right because a body that is read by itself is the same.
-- Assumes nothing.
use mathlib.Core.Path.{◌∙◌, ap}
use native.Mathlib.Omega.{arith}
use Rattle.bodies.specs.Body.{body_ok}
use Rattle.bodies.specs.declared.layout.Layout.{Layout}
use Rattle.bodies.proofs.Lent.{body_lent}
use Rattle.bodies.proofs.body.body_inside_ok.Goals as goal

pub slice_bounds-body_ok-end : goal.slice_bounds-body_ok-end
slice_bounds-body_ok-end c = let size = ap (λ (l : Layout). l.body) c.layout_of.ensures.0 in
    omega (arith, c.requires)

pub returns : goal.returns
returns c = let g = c.args in
    let size = ap (λ (l : Layout). l.body) c.layout_of.ensures.0 in
    c.body_ok.ensures
    ∙ ap (body_ok g.version) (body_lent g.image.now g.version g.at c.layout_of.result.body size (omega (arith, c.requires)))
