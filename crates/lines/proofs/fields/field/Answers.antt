-- `field` is right because field n of the line is, at every turn, a field of what is left of the line.
-- Assumes nothing.
use Rattle.std.proofs.Common.{◌∙◌, sym, arith}
use Rattle.lines.proofs.FieldLaws.{next_field, last_field}
use Rattle.lines.proofs.fields.field.Goals as goal

pub loop-preserved : goal.loop-preserved
loop-preserved c =
    rw c.behind_field-rest.ensures (c.loop.invariant ∙ next_field c.args.n c.loop.counter c.loop.rest.now (omega arith))

pub returns : goal.returns
returns c =
    rw c.field_length.ensures.value
    (last_field c.args.n c.loop.counter c.loop.rest.now (omega arith) ∙ sym c.loop.invariant)
