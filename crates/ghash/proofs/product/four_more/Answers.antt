-- `four_more` is right because the entries of the next four bits of both halves are added to the two blocks, each moved down by four places.
-- Assumes nothing.
use mathlib.Core.Path.{ap, ap₂, ◌∙◌}
use Prim.Native.Nat.{ℕ, ◌+◌, ◌-◌, ◌%◌, ◌^◌}
use Rattle.octets.specs.Xor.{◌⊕◌}
use Rattle.block.specs.Halves.{value}
use Rattle.ghash.specs.Table.{nexts}
use Rattle.ghash.proofs.Unreduced.{halves_more, high_made, low_made, zeros-left, zeros_fewer}
use Rattle.ghash.proofs.product.four_more.Goals as goal

pub returns : goal.returns
returns c h is partway = let given = c.args in
    let k : ℕ = given.k in
    let v : ℕ = value given.z.high in
    let w : ℕ = value given.z.low in
    let p : ℕ = c.entry_at-second.result.hi in
    let q : ℕ = c.entry_at-second.result.lo in
    let low = low_made given.z.high.hi given.z.high.lo w q (value c.moved_down.result)
    (value c.raised.result) (value c.xor-low.result) c.moved_down.ensures c.raised.ensures.0 c.xor-low.ensures in
    let high = high_made v (value c.entry_at-first.result) p (value c.moved_down-2.result) (value c.xor-added.result)
    (value c.xor.result) c.moved_down-2.ensures c.xor-added.ensures c.xor.ensures in
    record {
      empty = ap (λ (n : ℕ). n % 2 ^ (64 - (k + 4))) low ∙ zeros_fewer k v w q c.requires partway.empty;
      sums =
          ap₂ (λ (a b : ℕ). a ⊕ nexts 128 b) high low
          ∙ halves_more k given.x.hi given.x.lo h c.four_bits.result c.four_bits-2.result
          (value c.entry_at-first.result) p q v w c.four_bits.ensures.0 c.four_bits-2.ensures.0
          (c.entry_at-first.ensures ∙ is.entries c.four_bits.result c.four_bits.ensures.1)
          (c.entry_at-second.ensures ∙ is.entries c.four_bits-2.result c.four_bits-2.ensures.1)
          c.raised.ensures.1 (zeros-left k w c.requires partway.empty) partway.sums;
    }
