-- `field_length` is right because a field's length is the place of the first character that ends it, or the whole length.
-- Assumes nothing.
use Rattle.std.proofs.Common.{rules}
use Rattle.lines.proofs.FieldLaws.{length_is}
use Rattle.lines.proofs.fields.field_length.Goals as goal

pub returns-clause-value : goal.returns-clause-value
returns-clause-value c = rw (length_is, ← c.field_end.ensures) (search rules)
