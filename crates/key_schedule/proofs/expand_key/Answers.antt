-- `expand_key` is right because before turn i the first i words are those of the expansion.
-- Assumes nothing.
use mathlib.Core.Path.{◌≡◌, ◌∙◌, refl, ap}
use Prim.Native.Nat.{ℕ, ◌+◌, ◌-◌, ◌/◌}
use native.Mathlib.Omega.{arith}
use Rattle.key_schedule.specs.KeyExpansion.{round_constant}
use Rattle.key_schedule.proofs.Schedule.{scheduled_none, scheduled_more, scheduled_all}
use borrow.Author.Rules.{rules}
use Rattle.key_schedule.proofs.expand_key.Goals as goal

pub loop-i-init : goal.loop-i-init
unfolding round_constant
loop-i-init c = (scheduled_none (search rules) c.key_words-w.ensures, refl)

pub loop-i-preserved : goal.loop-i-preserved
loop-i-preserved c = let i : ℕ = c.loop-i.i in
    let next : i / 8 ≡ (i + 1 - 1) / 8 = omega arith in (
      scheduled_more _ _ _ i _ (omega arith) c.loop-i-test.true (c.copy_from_slice.ensures.after ∙ c.next_word-next.ensures) c.loop-i.invariant.0,
      c.constant_after-constant.ensures ∙ ap round_constant next,
    )

pub returns : goal.returns
returns c = scheduled_all _ _ _ c.loop-i-test.false c.loop-i.invariant.0
