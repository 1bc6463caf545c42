-- `masked_octet` is right because an octet that the mask reaches is ANDed with its own octet of the mask, and another is kept.
-- Assumes nothing.
use mathlib.Core.Path.{sym, ap, ◌∙◌}
use Prim.Native.Nat.{ℕ}
use lib.Bits.{bit_and}
use Rattle.octets.specs.Lists.{octet}
use Rattle.masking.proofs.Masking.{octet_reached, octet_beyond}
use Rattle.masking.proofs.masked.masked_octet.Goals as goal

pub returns-then-i-mask : goal.returns-then-i-mask
returns-then-i-mask c = let given = c.args in
    ap (λ (x : ℕ). bit_and x (octet given.mask.now given.i)) c.octet_at-x.ensures
    ∙ sym (octet_reached given.mask.now given.frame.now given.i c.if-i-mask.true)

pub returns : goal.returns
returns c = let given = c.args in
    c.octet_at-x.ensures ∙ sym (octet_beyond given.mask.now given.frame.now given.i c.if-i-mask.false)
