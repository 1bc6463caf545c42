-- `hash` is right because the one GHASH of the standard goes part by part.
-- Assumes nothing.
use Rattle.block.specs.Halves.{value}
use Rattle.ghash.proofs.Hashing.{hash_made}
use Rattle.ghash.proofs.hash.Goals as goal

pub returns : goal.returns
returns c = let given = c.args in
    let h = value given.h in
    let is = c.table-t.ensures in
    hash_made given.additional.now given.text.now h (value c.hash_onto-y.result) (value c.hash_onto-z.result)
    c.length_in_bits.result c.length_in_bits-2.result (value c.xor.result)
    (value c.multiply.result) (c.hash_onto-y.ensures h is) (c.hash_onto-z.ensures h is)
    c.length_in_bits.ensures c.length_in_bits-2.ensures c.xor.ensures (c.multiply.ensures h is)
