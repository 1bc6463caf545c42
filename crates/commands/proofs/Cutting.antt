-- A verdict cut short: a refusal makes no store, and a grant the first j of its plan. And what is judged is what the reply says.
-- Assumes nothing.
use Prim.Native.Nat.{ℕ}
use mathlib.Core.Path.{◌≡◌, sym, ap, ◌∙◌, subst}
use mathlib.Core.List.{List}
use native.Mathlib.Omega.{arith}
use borrow.Author.Tests.{eq-eqb, ne_eqb}
use lib.ListN.{length, take}
use lib.Seq.{take-nil}
use Rattle.std.specs.Prelude.{Result}
use Rattle.marks.specs.Stores.{first_stores, stored}
use Rattle.marks.specs.declared.plans.Store.{Store}
use Rattle.judging.specs.Replies.{Reply}
use Rattle.judging.specs.Verdicts.{judgement, Judged, Grants, Refuses}
use Rattle.judging.specs.declared.answers.Refusal.{Refusal}
use Rattle.judging.specs.declared.verdict.Grant.{Grant}
use Rattle.numbers.specs.Numbers.{number_of}
use Rattle.procedures.specs.declared.procedure.Procedure as code
use Rattle.deciding.specs.Steps.{procedure_judged}
use Rattle.link.specs.Calls.{cut}
use Rattle.link.proofs.Leaving.{cut-done, cut-refused}
use Rattle.commands.specs.Commanding.{made_by}
use Rattle.commands.specs.Steps.{reply_under}

-- judged from the entry's last number, however it was read
pub judged : (p : code.Procedure) (image last : List ℕ) (e : ℕ) (value : List ℕ) (room n : ℕ) → n ≡ number_of last e
    → (v : Result Grant Refusal) → Judged v (procedure_judged p image e n value room) → Judged v (judgement (reply_under p image last e value room))
judged p image last e value room n same v j = subst (λ (m : ℕ). Judged v (procedure_judged p image e m value room)) same j

-- so many stores are made, and this is the image
abbrev pub Cut : Reply → List ℕ → ℕ → ℕ → List ℕ → Type 0
Cut q image j r after = (r ≡ length (take j (made_by q))) × (after ≡ cut q image j)

module _ (q : Reply) (image : List ℕ) (j : ℕ) where
  pub cut-refusal : (a : Refusal) → Refuses a q.answer → Cut q image j 0 image
  cut-refusal a r =
      let not_done : q.answer ≡ 0 → ⊥ = λ z. omega (arith, r.some) in
      (rw (ne_eqb q.answer 0 not_done, take-nil {A = Store} j), sym (cut-refused q image j not_done))

  pub cut_grant : (g : Grant) (r : ℕ) (after : List ℕ) → Grants g (judgement q) → r ≡ length (first_stores g.plan j)
      → after ≡ stored image (first_stores g.plan j) → Cut q image j r after
  cut_grant g r after ok n i = (
    n ∙ ap (λ (s : List Store). length (take j s)) ok.stores ∙ rw (eq-eqb q.answer 0 ok.answer),
    i ∙ ap (λ (s : List Store). stored image (take j s)) ok.stores ∙ sym (cut-done q image j ok.answer),
  )
