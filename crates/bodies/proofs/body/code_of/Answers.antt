-- `code_of` is right because the mark of every layout stands in the body.
-- Assumes nothing.
-- the code where the layout that was given has the mark
use mathlib.Core.Path.{◌≡◌, sym, ◌∙◌, ap}
use Prim.Native.Nat.{ℕ, ◌+◌}
use mathlib.Core.List.{List}
use Rattle.octets.specs.Numbers.{number_at}
use Rattle.octets.proofs.Numbers.{number_at-part}
use Rattle.bodies.specs.Body.{body_in, code_of}
use Rattle.bodies.specs.Layout.{layout_of}
use Rattle.bodies.specs.declared.layout.Layout.{Layout}
use Rattle.bodies.proofs.Layouts.{lawful}
use Rattle.bodies.proofs.Lent.{number_lent}
use Rattle.bodies.proofs.body.code_of.Goals as goal

code-there : (image : List ℕ) (version at : ℕ) (l : Layout) → l ≡ layout_of version → number_at (at + l.mark) 4 image ≡ code_of version (body_in image version at)
unfolding body_in
code-there image version at l e =
    ap (λ (x : Layout). number_at (at + x.mark) 4 image) e
    ∙ sym (number_at-part at (layout_of version).body (layout_of version).mark 4 image (lawful version).inside)

pub returns-then-end-image : goal.returns-then-end-image
returns-then-end-image c = let g = c.args in
    let l = c.layout_of.result in
    c.four_at.ensures ∙ number_lent g.image.now (g.at + l.mark) 4 ∙ code-there g.image.now g.version g.at l c.layout_of.ensures.0

pub returns : goal.returns
returns c = let g = c.args in
    c.four_at-2.ensures
    ∙ code-there g.image.now g.version g.at c.layout_of.result c.layout_of.ensures.0
