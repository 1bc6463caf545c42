-- `body_two` is right because the fields that every version has stand in the body.
-- Assumes nothing.
use native.Mathlib.Omega.{arith}
use Rattle.octets.proofs.Numbers.{number_at-part}
use Rattle.bodies.specs.Body.{body_in}
use Rattle.bodies.specs.Layout.{layout_of}
use Rattle.bodies.proofs.Layouts.{fields-inside}
use Rattle.bodies.proofs.body.body_two.Goals as goal

pub returns : goal.returns
unfolding body_in
returns c = let given = c.args in
    rw (number_at-part given.at (layout_of given.version).body given.k 2 given.image.now
    (omega (arith, c.requires, fields-inside given.version))) (cc)
