-- A refusal changes nothing: what a call leaves is decided by its answer, and under any answer but 0 it is everything as it was, whole or
-- cut.
-- Assumes nothing.
use Prim.Native.Nat.{ℕ}
use mathlib.Core.Path.{◌≡◌, refl, ◌∙◌}
use mathlib.Core.Bool.{Bool, true, false, cond}
use mathlib.Core.List.{List, []}
use lib.ListN.{length}
use Rattle.image.specs.Image.{valid_image}
use Rattle.numbers.specs.Numbers.{loaded_numbers}
use Rattle.link.specs.Calls.{refused, left, cut, loaded, securing_reply, secured, secured_cut}
use Rattle.link.specs.Calls.{comparison, checking_reply, checked_as, checked, checked_cut_as, checked_cut}
use Rattle.judging.specs.Replies.{Reply}
use Rattle.link.proofs.Leaving.{left-answer, left-refused, cut-refused}
use Rattle.promises.specs.Refusals.{Untouched, Refusals}

untouched : (answer : ℕ) (image numbers output : List ℕ) → Untouched image numbers output (refused answer image numbers output)
untouched answer image numbers output = record { length = refl; stores = refl; images = refl; lasts = refl; outputs = refl }

pub by_answer : (r : Reply) (image numbers output : List ℕ) → let x = left r image numbers output in
    (x.answer ≡ 0 → ⊥) → Untouched image numbers output x
by_answer r image numbers output not_done =
    rw (left-refused r image numbers output (λ z. not_done (left-answer r image numbers output ∙ z)))
    (untouched r.answer image numbers output)

pub cut-by-answer : (r : Reply) (image numbers output : List ℕ) (j : ℕ) → ((left r image numbers output).answer ≡ 0 → ⊥) → cut r image j ≡ image
cut-by-answer r image numbers output j not_done = cut-refused r image j (λ z. not_done (left-answer r image numbers output ∙ z))

by_test : (t : Bool) (image numbers : List ℕ)
    → let x = cond t (record { answer = 0; length = 0; stores = 0; image = image; numbers = loaded_numbers image; output = [] })
    (refused 1 image numbers []) in
    (x.answer ≡ 0 → ⊥) → Untouched image numbers [] x
by_test true image numbers not_done = absurd (not_done refl)
by_test false image numbers not_done = untouched 1 image numbers []

pub refusals : Refusals
unfolding loaded secured secured_cut checked checked_as checked_cut checked_cut_as
refusals =
    record {
      loading = λ image numbers. by_test (valid_image image) image numbers;
      sending = λ image numbers said spi frame output.
          by_answer (securing_reply image numbers said spi frame (length output)) image numbers output;
      sending_cut = λ image numbers said spi frame output.
          cut-by-answer (securing_reply image numbers said spi frame (length output)) image numbers output;
      checking = λ image numbers said frame output.
          by_answer (checking_reply (comparison image numbers said frame) image numbers said frame (length output)) image numbers output;
      checking_cut = λ image numbers said frame output.
          cut-by-answer (checking_reply (comparison image numbers said frame) image numbers said frame (length output)) image numbers output;
    }
