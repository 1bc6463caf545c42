-- `owner_of` is right because the owner stands in the body, behind the mark, where the layout has owners.
-- Assumes nothing.
use mathlib.Core.Path.{◌≡◌, sym, ◌∙◌, ap}
use mathlib.Core.Bool.{true, false}
use Prim.Native.Nat.{◌+◌}
use native.Mathlib.Omega.{arith}
use Rattle.octets.specs.Lists.{octet}
use Rattle.octets.proofs.Parts.{octet-part}
use Rattle.marks.specs.Gray.{code_length}
use Rattle.bodies.specs.Body.{body_in}
use Rattle.bodies.specs.Layout.{owner_place, layout_of}
use Rattle.bodies.specs.declared.layout.Layout.{Layout}
use Rattle.bodies.proofs.Layouts.{lawful}
use Rattle.bodies.proofs.body.owner_of.Goals as goal

pub returns-then-layout : goal.returns-then-layout
unfolding body_in
returns-then-layout c = let given = c.args in
    let l = layout_of given.version in
    let has : l.owners ≡ true = ap (λ (x : Layout). x.owners) (sym c.layout_of-layout.ensures.0) ∙ c.if-layout.true in
    let place : given.at + l.mark + code_length ≡ given.at + owner_place l = omega arith in
    rw has
    (c.octet_at.ensures
    ∙ ap (λ (x : Layout). octet given.image.now (given.at + x.mark + code_length)) c.layout_of-layout.ensures.0
    ∙ ap (octet given.image.now) place
    ∙ sym (octet-part given.at l.body given.image.now (owner_place l) ((lawful given.version).owner has)))

pub returns : goal.returns
returns c = let none : (layout_of c.args.version).owners ≡ false =
    ap (λ (x : Layout). x.owners) (sym c.layout_of-layout.ensures.0) ∙ c.if-layout.false
    in
    rw none
