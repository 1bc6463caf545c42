-- Each turn does four more bits of each quarter, and all are joined and reduced when their bits are done.
-- Assumes nothing.
use Rattle.std.proofs.Common.{◌≡◌, ℕ, ◌/◌, ◌^◌, refl, ap, ap₂, ◌∙◌, arith, rules}
use Rattle.octets.specs.Xor.{◌⊕◌}
use Rattle.ghash.specs.Product.{next_v, product_rounds}
use Rattle.block.specs.Halves.{value}
use Rattle.ghash.specs.Partway.{Partway}
use Rattle.ghash.specs.Table.{nexts}
use Rattle.ghash.proofs.Unreduced.{halves_joined, halves_all}
use Rattle.ghash.proofs.product.multiply.Goals as goal

pub loop-k-init : goal.loop-k-init
unfolding product_rounds nexts next_v
loop-k-init c = (omega arith, refl, λ h is. record { empty = refl; sums = refl }, λ h is. record { empty = refl; sums = refl })

pub returns : goal.returns
returns c h is = let at-loop = c.loop-k in
    let x = c.args.x in
    let v : ℕ = value at-loop.lower.high in
    let w : ℕ = value at-loop.lower.low in
    let vs : ℕ = value at-loop.upper.high in
    let ws : ℕ = value at-loop.upper.low in
    let high : ℕ = value c.joined-z.result.high in
    let low : ℕ = value c.joined-z.result.low in
    let e : at-loop.k ≡ 32 = omega arith in
    let lower : Partway h x.hi x.lo 32 v w = rw e at (at-loop.invariant.2 h is) in
    let upper : Partway h (x.hi / 2 ^ 32) (x.lo / 2 ^ 32) 32 vs ws = rw e at (at-loop.invariant.3 h is) in
    c.xor.ensures
    ∙ ap (λ (n : ℕ). high ⊕ n) (c.half_next-2.ensures ∙ ap (nexts 64) c.half_next.ensures)
    ∙ halves_all x.hi x.lo h high low (search rules)
    (ap₂ (λ (a b : ℕ). a ⊕ nexts 128 b) c.joined-z.ensures.0 c.joined-z.ensures.1
    ∙ halves_joined x.hi x.lo h v w vs ws lower.empty lower.sums upper.sums)
