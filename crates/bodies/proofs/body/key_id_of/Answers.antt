-- `key_id_of` is right because in every layout what a body holds of its key has room for an ID.
-- Assumes nothing.
use mathlib.Core.Path.{sym, ◌∙◌, ap}
use Prim.Native.Nat.{◌+◌}
use native.Mathlib.Omega.{arith}
use Rattle.octets.specs.Numbers.{number_at}
use Rattle.octets.proofs.Numbers.{number_at-part}
use Rattle.bodies.specs.Body.{body_in}
use Rattle.bodies.specs.Layout.{layout_of}
use Rattle.bodies.specs.declared.layout.Layout.{Layout}
use Rattle.bodies.proofs.Layouts.{lawful, id_before}
use Rattle.bodies.proofs.body.key_id_of.Goals as goal

pub returns : goal.returns
unfolding body_in
returns c = let given = c.args in
    let l = layout_of given.version in
    c.two_at.ensures
    ∙ ap (λ (x : Layout). number_at (given.at + x.key) 2 given.image.now) c.layout_of.ensures.0
    ∙ sym (number_at-part given.at l.body l.key 2 given.image.now (omega (arith, id_before given.version, (lawful given.version).inside)))
