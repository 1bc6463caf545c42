-- What a call leaves, by its answer: where it is 0 the reply is carried out, and where it is another nothing is touched.
-- Assumes nothing.
use Prim.Native.Nat.{ℕ}
use mathlib.Core.Path.{◌≡◌, refl, sym}
use mathlib.Core.Bool.{Bool, true, false, cond}
use mathlib.Core.List.{List}
use borrow.Author.Tests.{eq-eqb, ne_eqb, eqb-true}
use lib.Dec.{eqb}
use lib.ListN.{length, take, drop}
use lib.Seq.{take_at}
use Rattle.marks.specs.Stores.{stored}
use Rattle.judging.specs.Replies.{Reply}
use Rattle.link.specs.Calls.{handed, refused, done, left, cut}

module _ (r : Reply) (image last output : List ℕ) where
  pub left-done : r.answer ≡ 0 → left r image last output ≡ done r image last output
  left-done z = rw (eq-eqb r.answer 0 z)

  pub left-refused : (r.answer ≡ 0 → ⊥) → left r image last output ≡ refused r.answer image last output
  left-refused z = rw (ne_eqb r.answer 0 z)

  pub left-answer : (left r image last output).answer ≡ r.answer
  left-answer = by_test (eqb r.answer 0) refl
    where
      by_test : (t : Bool) → eqb r.answer 0 ≡ t
          → (cond t (done r image last output) (refused r.answer image last output)).answer ≡ r.answer
      by_test true z = sym (eqb-true r.answer 0 z)
      by_test false z = refl

  pub handed-result : length r.result ≡ r.size → handed (done r image last output) ≡ r.result
  handed-result long = take_at r.result (drop r.size output) r.size long

pub cut-done : (r : Reply) (image : List ℕ) (j : ℕ) → r.answer ≡ 0 → cut r image j ≡ stored image (take j r.stores)
cut-done r image j z = rw (eq-eqb r.answer 0 z)

pub cut-refused : (r : Reply) (image : List ℕ) (j : ℕ) → (r.answer ≡ 0 → ⊥) → cut r image j ≡ image
cut-refused r image j z = rw (ne_eqb r.answer 0 z)
