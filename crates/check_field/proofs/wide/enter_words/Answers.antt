-- `enter_words` is right because after n words the wide register stands for the field of the first 8 n octets.
-- Assumes nothing.
use native.Mathlib.Omega.{arith}
use mathlib.Core.Path.{◌≡◌, sym, ap, ◌∙◌}
use Prim.Native.Nat.{ℕ, ◌*◌, ◌/◌}
use lib.ListN.{length}
use Rattle.check_field.specs.CheckField.{check_field_of}
use Rattle.check_field.specs.Words.{narrow}
use Rattle.check_field.proofs.Fields.{field-none, field-next-word}
use Rattle.check_field.proofs.Words.{words_none}
use Rattle.check_field.proofs.wide.enter_words.Goals as goal

pub loop-words-init : goal.loop-words-init
loop-words-init c = words_none ∙ sym (field-none _)

pub loop-words-preserved : goal.loop-words-preserved
loop-words-preserved c = let at-loop = c.loop-words in
    let octets = c.args.octets.now in
    field-next-word at-loop.words octets (narrow at-loop.register) (narrow c.enter_wide-register.result) c.eight_octets.result
    (λ i. (c.type_inv.octets i).fits) at-loop.invariant c.eight_octets.ensures c.enter_wide-register.ensures

pub returns : goal.returns
returns c = let at-loop = c.loop-words in
    let octets = c.args.octets.now in
    let all : at-loop.words ≡ length octets / 8 = omega arith in
    at-loop.invariant ∙ ap (λ (n : ℕ). check_field_of (n * 8) octets) all
