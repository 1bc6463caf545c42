-- `command_under` is right because the verdict is what the definition decides, and it is carried out as the definition says: the stores, then
-- the reply.
-- Assumes nothing.
use mathlib.Core.Path.{◌≡◌, refl, ap, ◌∙◌, subst}
use mathlib.Core.List.{List}
use lib.ListN.{length}
use Prim.Native.Nat.{ℕ}
use Rattle.octets.specs.Output.{fronted}
use Rattle.marks.specs.Stores.{stored}
use Rattle.numbers.specs.Numbers.{number_of}
use Rattle.std.specs.Prelude.{Ok, Err}
use Rattle.link.proofs.Carried.{carried_refusal, carried_grant}
use Rattle.procedures.specs.Procedures.{procedure_is}
use Rattle.commands.specs.Steps.{reply_under}
use Rattle.commands.proofs.Accepting.{accepts-all, fronted_fits, reply-written}
use Rattle.commands.proofs.Cutting.{judged}
use Rattle.commands.proofs.command_under.Goals as goal

pub respond-requires : goal.respond-requires
respond-requires c = c.make_all-made.ensures.0

pub returns-in-Err : goal.returns-in-Err
returns-in-Err c = let g = c.args in
    let q = reply_under g.procedure g.image.now g.numbers.last g.entry g.value.now (length g.output.now) in
    let told = judged g.procedure g.image.now g.numbers.last g.entry g.value.now (length g.output.now) _ c.of-last.ensures (Err c.in-Err.first) c.in-Err.ensures in
    carried_refusal q g.image.now g.output.now _ g.numbers _ told
    c.refused.ensures

pub returns-in-Ok : goal.returns-in-Ok
returns-in-Ok c = let g = c.args in
    let q = reply_under g.procedure g.image.now g.numbers.last g.entry g.value.now (length g.output.now) in
    let told = judged g.procedure g.image.now g.numbers.last g.entry g.value.now (length g.output.now) _ c.of-last.ensures (Ok c.in-Ok.grant) c.in-Ok.ensures in
    let ok = accepts-all (procedure_is g.procedure) g.image.now g.entry (number_of g.numbers.last g.entry) g.value.now (length g.output.now) told.answer in
    let same : (procedure_is g.procedure).reply c.make_all-made.new.image _ c.of-last.result g.value.now ≡ q.result =
    reply-written g.procedure g.image.now g.value.now q.number (c.make_all-made.ensures.1 ∙ ap (stored g.image.now) told.stores) told.entry
    c.of-last.ensures
    in
    carried_grant q g.image.now g.output.now _ g.numbers.last c.respond.result _ _ told
    refl
    c.make_all-made.ensures.1
    (c.respond.ensures.output_after
    ∙ ap (λ (t : List ℕ). fronted t g.output.now) same
    ∙ fronted_fits q.result g.output.now ok.roomy)
    c.respond.ensures.answer_value.0 c.respond.ensures.answer_value.1
