-- `put_fields` is right because each turn puts the next field behind those before it.
-- Assumes nothing.
use native.Mathlib.Omega.{arith}
use Rattle.listing_text.proofs.Parts.{fields_more}
use Rattle.writing.proofs.Puts.{put_then}
use Rattle.listing_text.proofs.fields.put_fields.Goals as goal

pub loop-n-preserved : goal.loop-n-preserved
loop-n-preserved c =
    rw (fields_more c.args.numbers c.loop-n.n-index (omega arith)) (put_then c.loop-n.invariant c.put_field-behind.ensures)
