-- `mask_of` is right because it copies the octets at the mask's place, which stand in the body.
-- Assumes nothing.
use mathlib.Core.Path.{sym, ◌∙◌}
use native.Mathlib.Omega.{arith}
use Rattle.octets.proofs.Parts.{part-part}
use Rattle.bodies.specs.Body.{body_in}
use Rattle.bodies.specs.Layout.{mask_place, mask_length, layout_of}
use Rattle.bodies.proofs.Layouts.{fields-inside}
use Rattle.bodies.proofs.body.mask_of.Goals as goal

pub returns : goal.returns
unfolding body_in
returns c = let given = c.args in
    c.copy_at.ensures
    ∙ sym (part-part given.at (layout_of given.version).body mask_place mask_length given.image.now
    (omega (arith, fields-inside given.version)))
