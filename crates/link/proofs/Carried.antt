-- A verdict carried out is what its call leaves: a refusal changes nothing, and a grant makes every store, takes the number and writes the
-- result.
-- Assumes nothing.
use Prim.Native.Nat.{ℕ, ◌-◌, ◌/◌, ◌<◌}
use mathlib.Core.Path.{◌≡◌, sym, ap, ap₂, ◌∙◌}
use mathlib.Core.Bool.{true}
use mathlib.Core.List.{List, ◌++◌}
use native.Mathlib.Omega.{arith}
use lib.ListN.{length, set, drop}
use Rattle.image.specs.Image.{count_of, valid_image, mark_in}
use Rattle.numbers.specs.Stores.{plan_for, stores_for}
use Rattle.marks.specs.Stores.{stores_in, store_at, stores_of, stored}
use Rattle.numbers.proofs.AfterStores.{has_entry_lem}
use Rattle.marks.proofs.Made.{length-steps}
use Rattle.image.proofs.ValidImages.{valid-laid}
use Rattle.numbers.specs.declared.numbers.Numbers.{Numbers}
use Rattle.octets.specs.Output.{written}
use Rattle.std.specs.Prelude.{Err}
use Rattle.judging.specs.Answers.{Reported, reported, refusal, granted}
use Rattle.link.specs.Calls.{Left, leaving, left}
use Rattle.judging.specs.Replies.{Reply}
use Rattle.link.specs.Steps.{outcome}
use Rattle.judging.specs.Verdicts.{judgement, Grants, Refuses}
use Rattle.judging.specs.declared.answers.Refusal.{Refusal}
use Rattle.link.specs.declared.outcome.Outcome.{Outcome}
use Rattle.judging.specs.declared.verdict.Grant.{Grant}
use Rattle.link.proofs.Leaving.{left-done, left-refused}

-- ---- of a valid image the stores are as many as the mark of an entry has to rise

pub counted : (image : List ℕ) (i n : ℕ) → valid_image image ≡ true → i < count_of image
    → length (stores_for image i n) ≡ n / 64 - mark_in image i
unfolding plan_for
counted image i n v h = rw (has_entry_lem image i (valid-laid image v) h) (length-steps _ (n / 64 - mark_in image i))

-- ---- what is left

module _ (q : Reply) (image output : List ℕ) where
  pub carried_refusal : (a : Refusal) (numbers : Numbers) (r : Outcome) → Refuses a q.answer → r ≡ outcome (Err a) numbers
      → leaving r image output ≡ left q image numbers.last output
  carried_refusal a numbers r j e =
      let of : Reported → Left = λ x.
      record {
        answer = x.number;
        length = x.length;
        stores = x.stores;
        image = image;
        numbers = numbers.last;
        output = output;
      }
      in
      ap (λ (x : Outcome). leaving x image output) e
      ∙ ap (λ (n : ℕ). of (refusal n)) j.answer
      ∙ sym (left-refused q image numbers.last output (λ z. omega (arith, j.some)))

  pub carried_grant : (g : Grant) (last : List ℕ) (r : Outcome) (after out : List ℕ) → Grants g (judgement q)
      → length q.result ≡ q.size
      → after ≡ stored image (stores_of g.plan)
      → out ≡ written q.result output
      → reported r.answer ≡ granted g.size (stores_in g.plan)
      → r.numbers.last ≡ set last g.entry g.number
      → leaving r after out ≡ left q image last output
  carried_grant g last r after out j long s o a n =
      let lasts : r.numbers.last ≡ set last q.entry q.number = n ∙ ap₂ (set last) j.entry j.number in
      let outs : out ≡ q.result ++ drop q.size output = o ∙ ap (λ (l : ℕ). q.result ++ drop l output) long in
      let images : after ≡ stored image q.stores = s ∙ ap (stored image) j.stores in
      let counts : stores_in g.plan ≡ length q.stores = sym (length-steps (store_at g.plan) _) ∙ ap length j.stores in
      let reports : reported r.answer ≡ granted q.size (length q.stores) = a ∙ ap₂ granted j.size counts in
      let of : Reported → List ℕ → List ℕ → List ℕ → Left = λ p i l w.
      record { answer = p.number; length = p.length; stores = p.stores; image = i; numbers = l; output = w }
      in
      parts of reports images lasts outs ∙ sym (left-done q image last output j.answer)
    where
      parts : (of : Reported → List ℕ → List ℕ → List ℕ → Left) {p p' : Reported} {i i' l l' w w' : List ℕ}
          → p ≡ p' → i ≡ i' → l ≡ l' → w ≡ w' → of p i l w ≡ of p' i' l' w'
      parts of a b c d = cc
