-- `load` is right because it answers by the image alone, and its numbers are those that the marks stand for.
-- Assumes nothing.
use mathlib.Core.Path.{sym, ap, ◌∙◌}
use mathlib.Core.List.{List, []}
use Prim.Native.Nat.{ℕ}
use Rattle.std.specs.Prelude.{Err}
use Rattle.judging.specs.Answers.{refusal_of}
use Rattle.judging.specs.declared.answers.Refusal.{Refusal}
use Rattle.link.specs.Calls.{Left, leaving, loaded, refused}
use Rattle.link.specs.Steps.{outcome}
use Rattle.link.specs.declared.outcome.Outcome.{Outcome}
use Rattle.judging.proofs.Standings.{load_broken, load_well}
use Rattle.link.proofs.load.Goals as goal

pub returns-in-Ok : goal.returns-in-Ok
unfolding loaded
returns-in-Ok c = let image = c.args.image.now in
    let v = load_well image (sym c.in-Ok.ensures.standing_value) in
    let done : List ℕ → Left = λ n. record { answer = 0; length = 0; stores = 0; image = image; numbers = n; output = [] } in
    rw v (ap done (rw v at c.load.ensures.last_value))

pub returns-in-Err : goal.returns-in-Err
unfolding loaded
returns-in-Err c = let image = c.args.image.now in
    let v = load_broken image c.in-Err.unfit (sym c.in-Err.ensures.standing_value) in
    let w = v.0 in
    let u = c.from.ensures ∙ ap refusal_of v.1 in
    ap (λ (r : Outcome). leaving r image []) (c.refused.ensures ∙ ap (λ (r : Refusal). outcome (Err r) c.load.new.numbers) u)
    ∙ rw w (ap (λ (n : List ℕ). refused 1 image n []) (rw w at c.load.ensures.last_value))
