-- `octets` is right because the octets are read over zeros.
-- Assumes nothing.
use Rattle.vector_lines.proofs.Reading.{filled}
use Rattle.vector_lines.proofs.fields.octets.Goals as goal

pub returns : goal.returns
returns g c =
    let a = c.args in
    filled _ a.n a.line.now c.field.ensures c.read_octets.ensures
