-- `put_body` is right because each turn puts the next octet of the body behind those before it.
-- Assumes nothing.
use mathlib.Core.Path.{◌≡◌, ap, ◌∙◌}
use native.Mathlib.Omega.{arith}
use Rattle.octets.proofs.Parts.{length_part}
use Rattle.bodies.specs.Body.{body_in}
use Rattle.bodies.specs.Layout.{layout_of}
use Rattle.bodies.specs.declared.layout.Layout.{Layout}
use Rattle.image.specs.Image.{version_of}
use Rattle.writing.proofs.Puts.{put_then}
use Rattle.salvage_image.proofs.Parts.{part_more, length-there}
use Rattle.salvage_image.proofs.image_text.put_body.Goals as goal

pub put_octet-behind-requires : goal.put_octet-behind-requires
put_octet-behind-requires c = let g = c.args in
    let size : c.layout_of-size.result.body ≡ (layout_of (version_of g.x.now)).body = ap (λ (l : Layout). l.body) (c.layout_of-size.ensures.0 ∙ ap layout_of c.version_of.ensures) in
    omega (arith, size, length_part g.position c.loop-i.i g.x.now, length-there g.x.now (version_of g.x.now) g.position, c.loop-i.invariant.place, c.loop-i.invariant.size)

pub loop-i-preserved : goal.loop-i-preserved
loop-i-preserved c = (rw (part_more, ← c.octet_at.ensures) (put_then c.loop-i.invariant c.put_octet-behind.ensures))

pub returns : goal.returns
unfolding body_in
returns c = let g = c.args in
    let size : c.layout_of-size.result.body ≡ (layout_of (version_of g.x.now)).body = ap (λ (l : Layout). l.body) (c.layout_of-size.ensures.0 ∙ ap layout_of c.version_of.ensures) in
    let all : c.loop-i.i ≡ (layout_of (version_of g.x.now)).body = omega (arith, size) in
    rw (← all) c.loop-i.invariant
