-- `body_octet` is right because the fields that every version has stand in the body.
-- Assumes nothing.
use native.Mathlib.Omega.{arith}
use Rattle.octets.proofs.Parts.{octet-part}
use Rattle.bodies.specs.Body.{body_in}
use Rattle.bodies.specs.Layout.{layout_of}
use Rattle.bodies.proofs.Layouts.{fields-inside}
use Rattle.bodies.proofs.body.body_octet.Goals as goal

pub returns : goal.returns
unfolding body_in
returns c = let given = c.args in
    rw (octet-part given.at (layout_of given.version).body given.image.now given.k
    (omega (arith, c.requires, fields-inside given.version))) (cc)
