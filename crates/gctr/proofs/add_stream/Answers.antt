-- A whole block's sums are put at their place, and a last block's are added octet by octet.
-- Assumes nothing.
use Rattle.std.proofs.Common.{arith, rules, ◌∙◌}
use Rattle.std.proofs.lemmas.Slice.{put_mid-paste}
use Rattle.gctr.proofs.add_stream.Goals as goal

pub returns-then-n-ge16 : goal.returns-then-n-ge16
returns-then-n-ge16 c = (omega arith, put_mid-paste _ _ _ _ _ 16 (c.copy_from_slice.ensures.after ∙ c.sums.ensures) (omega arith) (search rules))
