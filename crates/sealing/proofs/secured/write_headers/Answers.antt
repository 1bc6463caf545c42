-- `write_headers` is right because the length is rewritten in the header that was put to the front, and the security header goes behind it.
-- Assumes nothing.
use mathlib.Core.Path.{◌≡◌, ◌∙◌}
use mathlib.Core.List.{◌++◌}
use Prim.Native.Nat.{◌≤◌}
use native.Mathlib.Omega.{arith}
use lib.ListN.{length, take, drop, length-take}
use Rattle.kinds.specs.Kinds.{framed}
use Rattle.frame.specs.Parts.{header_of}
use Rattle.kinds.proofs.Kept.{lawful_framed}
use Rattle.sealing.proofs.Headers.{length-rewritten, rewritten-front}
use Rattle.octets.specs.Output.{written}
use Rattle.octets.proofs.Filling.{with_room, behind}
use Rattle.sealing.proofs.secured.write_headers.Goals as goal

pub returns : goal.returns
returns c =
    let g = c.args in
    let h = c.header_length-header in
    let k = framed g.framing in
    let law = lawful_framed g.framing in
    let fits : h.result ≤ length g.frame.now = omega (arith, h.ensures) in
    -- the header has room at the front, and stands there
    let roomy : length (take h.result g.frame.now) ≤ length g.output.now = rw length-take (omega (arith, h.ensures)) in
    let headed : c.put.new.out ≡ written (take h.result g.frame.now) g.output.now =
    c.put.ensures ∙ with_room (take h.result g.frame.now) g.output.now roomy
    in
    let whole = c.rewrite_length.new.frame ++ drop h.result c.put.new.out in
    c.put_behind.ensures
    ∙ behind h.result (k.with_length g.size (header_of k g.frame.now)) g.security.now g.output.now whole
    (length-rewritten k law g.frame.now h.result g.size h.ensures fits) (omega (arith, h.ensures))
    (rewritten-front k law g.frame.now h.result g.size h.ensures fits g.output.now c.put.new.out c.rewrite_length.new.frame headed
    c.rewrite_length.ensures.1)
