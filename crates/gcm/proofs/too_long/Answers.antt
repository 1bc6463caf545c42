-- `too_long` is right because a length in octets is over the limit just where it is in bits.
-- Assumes nothing.
use mathlib.Core.Path.{sym, ap, ◌∙◌}
use mathlib.Core.Bool.{Bool, ◌||◌}
use Prim.Native.Nat.{◌-◌, ◌^◌}
use lib.Dec.{ltb}
use lib.ListN.{length}
use Rattle.gcm.proofs.Laws.{limits}
use Rattle.gcm.proofs.too_long.Goals as goal

pub returns : goal.returns
returns c = let a = c.args.additional.now in
    let text = c.args.text.now in
    ap (λ (r : Bool). ltb (2 ^ 61 - 1) (length a) || r) c.text_too_long.ensures ∙ sym (limits a text)
