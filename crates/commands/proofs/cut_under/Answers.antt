-- `cut_under` is right because a refusal makes no store, and a grant the first of those that the definition decides.
-- Assumes nothing.
use mathlib.Core.Path.{subst}
use Rattle.std.specs.Prelude.{Ok, Err}
use Rattle.commands.specs.Steps.{reply_under}
use Rattle.commands.proofs.Cutting.{cut-refusal, cut_grant, judged}
use Rattle.commands.proofs.cut_under.Goals as goal

pub returns-in-Err : goal.returns-in-Err
returns-in-Err c = let g = c.args in
    let q = reply_under g.procedure g.image.now g.numbers.last g.entry g.value.now g.room in
    let told = judged g.procedure g.image.now g.numbers.last g.entry g.value.now g.room _ c.of-last.ensures (Err c.in-Err._refusal) c.in-Err.ensures in
    let made = cut-refusal q g.image.now g.stores c.in-Err._refusal told in
    record { value = made.0; image_after = made.1 }

pub returns-in-Ok : goal.returns-in-Ok
returns-in-Ok c = let g = c.args in
    let q = reply_under g.procedure g.image.now g.numbers.last g.entry g.value.now g.room in
    let told = judged g.procedure g.image.now g.numbers.last g.entry g.value.now g.room _ c.of-last.ensures (Ok c.in-Ok.grant) c.in-Ok.ensures in
    let made = cut_grant q g.image.now g.stores c.in-Ok.grant _ _ told c.make.ensures.0 c.make.ensures.1 in
    record { value = made.0; image_after = made.1 }
