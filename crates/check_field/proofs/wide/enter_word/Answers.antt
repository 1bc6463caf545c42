-- `enter_word` is right because the register after n octets of a word has the bits of their number.
-- Assumes nothing.
use native.Mathlib.Omega.{arith}
use mathlib.Core.Path.{◌≡◌, ap, ◌∙◌}
use Rattle.octets.specs.Numbers.{number}
use Rattle.octets.proofs.Numbers.{bytes-std, number-bytes}
use Rattle.check_field.specs.Register.{after_bits}
use Rattle.check_field.proofs.Entering.{none_entered, octet_entered}
use Rattle.check_field.proofs.wide.enter_word.Goals as goal

pub loop-octet-init : goal.loop-octet-init
unfolding number
loop-octet-init c = none_entered

pub loop-octet-preserved : goal.loop-octet-preserved
loop-octet-preserved c = let at-loop = c.loop-octet in
    octet_entered at-loop.octet-index c.to_be_bytes-octet-items.result at-loop.register c.enter-register.result c.loop-octet-test.element_fits.fits at-loop.invariant
    c.enter-register.ensures

pub returns : goal.returns
returns c = let at-loop = c.loop-octet in
    let word = c.args.word in
    let all : at-loop.octet-index ≡ 8 = omega arith in
    let whole : number 8 c.to_be_bytes-octet-items.result ≡ word =
    ap (number 8) (c.to_be_bytes-octet-items.ensures ∙ bytes-std 8 word) ∙ number-bytes 8 word (omega arith)
    in
    rw all at at-loop.invariant ∙ ap (after_bits 64 0) whole
