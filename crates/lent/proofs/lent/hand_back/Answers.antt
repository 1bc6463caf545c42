-- `hand_back` is right because after i turns the first i numbers of the lent list are those that come back: one that is equal needs no store.
-- Assumes nothing.
use mathlib.Core.Path.{◌≡◌, ◌∙◌, refl, subst}
use mathlib.Core.List.{List}
use Prim.Native.Nat.{ℕ, ◌+◌, ◌<◌}
use native.Mathlib.Omega.{arith}
use lib.ListN.{length}
use lib.Seq.{set-get_or}
use Rattle.octets.specs.Lists.{octet}
use Rattle.octets.proofs.Parts.{tab_self}
use Rattle.octets.proofs.Rules.{Filled, filled_none, filled_more, filled_all}
use borrow.Author.Rules.{rules}
use Rattle.lent.proofs.lent.hand_back.Goals.{then-lent-i, else-lent-i}
use Rattle.lent.proofs.lent.hand_back.Goals as goal

-- an element that is right already
filled-kept : {n i : ℕ} {f : ℕ → ℕ} {out : List ℕ} → i < n → octet out i ≡ f i → Filled n f out i → Filled n f out (i + 1)
filled-kept {n} {i} {f} {out} h e g = subst (λ (o : List ℕ). Filled n f o (i + 1)) (set-get_or out i 0) (filled_more h e g)

pub loop-i-init : goal.loop-i-init
loop-i-init c = filled_none (search rules)

pub loop-i-preserved : goal.loop-i-preserved
loop-i-preserved c = let at-loop = c.loop-i in
    let test : at-loop.i < 32 = omega arith in
    elim c.if-lent-i.branch [
      | then-lent-i w ↦ rw w.lent-is (filled_more test refl at-loop.invariant)
      | else-lent-i w ↦ rw w.lent-is (filled-kept test w.if-lent-i.false at-loop.invariant)
    ]

pub returns : goal.returns
returns c = let last = c.args.numbers.last in
    let long : length last ≡ 32 = search rules in
    filled_all (omega arith) c.loop-i.invariant ∙ rw (← long) (tab_self last)
