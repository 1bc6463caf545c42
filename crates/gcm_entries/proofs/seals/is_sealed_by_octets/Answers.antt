-- `is_sealed_by_octets` is right because it seals with the key and the IV of the line, and asks whether that is as published.
-- Assumes nothing.
use Rattle.gcm_entries.proofs.Calling.{sealed-from}
use Rattle.gcm_entries.proofs.seals.is_sealed_by_octets.Goals as goal

pub returns : goal.returns
returns c e =
    let g = c.args in
    sealed-from g.line.now g.additional.now g.plain.now c.key.ensures c.iv.ensures c.front.ensures
    c.seal-sealed.ensures (c.is_published.ensures e)
