-- A text that GCTR made is the ciphertext, and the tag is made of it as it stands in `out`.
-- Assumes nothing.
use Rattle.std.proofs.Common.{sym, ◌∙◌}
use Rattle.gcm.proofs.Made.{seal_made}
use Rattle.gcm.proofs.seal_under.Goals as goal

pub returns : goal.returns
returns c = let given = c.args in
    seal_made given.expanded.now given.iv given.plain.now given.out.now _ c.if-out-n.false
    c.crypt.ensures given.additional.now c.make_tag.result (sym c.too_long.ensures ∙ c.if-too_long.false)
    c.make_tag.ensures
