-- What a call on lent numbers returns: where they are 32, what the outcome of the module's call says; else the refusal, and all stays. Notes come
-- from the numbers and from what the call leaves.
-- Assumes nothing.
use Prim.Native.Nat.{ℕ}
use mathlib.Core.Path.{◌≡◌, refl, ap, ◌∙◌}
use mathlib.Core.Bool.{cond}
use mathlib.Core.List.{List}
use borrow.Author.Tests.{eq-eqb, ne_eqb}
use lib.ListN.{length}
use Rattle.image.specs.Image.{valid_image}
use Rattle.judging.specs.Answers.{reported}
use Rattle.link.specs.Calls.{Left, leaving, refused}
use Rattle.link.specs.declared.outcome.Outcome.{Outcome}
use Rattle.notes.specs.Noting.{LentNotes, lent_notes}
use Rattle.notes.specs.declared.Notes.{Notes}
use Rattle.noting.specs.Noted.{Noted, leaving_noted}
use Rattle.noting.specs.declared.noted.NotedOutcome.{NotedOutcome}
use Rattle.lent.specs.Interface.{packed, counted, Returned, NotedReturned}
use Rattle.lent.specs.Word.{word}

-- `call` is the module's call as a function of the numbers
module _ (call : List ℕ → Left) (image numbers output : List ℕ) where
  pub returned : (o : Outcome) {r : ℕ} {given i n u : List ℕ} → length numbers ≡ 32 → given ≡ numbers → leaving o i u ≡ call given
      → (r ≡ word (reported o.answer).number (reported o.answer).length (reported o.answer).stores) × (n ≡ o.numbers.last)
      → Returned (counted image numbers output (call numbers)) r i n u
  returned o h g e (p, back) =
      let left = e ∙ ap call g in
      rw (eq-eqb (length numbers) 32 h) record {
        result = p ∙ ap packed left;
        image = ap (λ (x : Left). x.image) left;
        numbers = back ∙ ap (λ (x : Left). x.numbers) left;
        output = ap (λ (x : Left). x.output) left;
      }

  pub miscounted : {r : ℕ} → (length numbers ≡ 32 → ⊥) → r ≡ word (cond (valid_image image) 2 1) 0 0
      → Returned (counted image numbers output (call numbers)) r image numbers output
  miscounted h p = rw (ne_eqb (length numbers) 32 h) record { result = p; image = refl; numbers = refl; output = refl }

-- and `notes` what it leaves of the notes
module _ (notes : List ℕ → Left → LentNotes) (call : List ℕ → Left) (image numbers output : List ℕ) where
  abbrev noting : List ℕ → Left → Noted
  noting given x = record { left = x; notes = notes given x }

  pub noted-returned : (q : NotedOutcome) {r : ℕ} {given i n u e : List ℕ} → length numbers ≡ 32 → given ≡ numbers
      → leaving_noted q i u e ≡ noting given (call given)
      → (r ≡ word (reported q.outcome.answer).number (reported q.outcome.answer).length (reported q.outcome.answer).stores)
      × (n ≡ q.outcome.numbers.last)
      → NotedReturned (noting numbers (counted image numbers output (call numbers))) r q.notes e i n u
  noted-returned q h g left made =
      record {
        returned = returned call image numbers output q.outcome h g (ap (λ (x : Noted). x.left) left) made;
        notes = rw (eq-eqb (length numbers) 32 h) (ap (λ (x : Noted). x.notes) left ∙ ap (λ (l : List ℕ). notes l (call l)) g);
      }

  pub noted-miscounted : {r : ℕ} {m : Notes} {e : List ℕ} → (length numbers ≡ 32 → ⊥) → r ≡ word (cond (valid_image image) 2 1) 0 0
      → lent_notes m e ≡ notes numbers (refused (cond (valid_image image) 2 1) image numbers output)
      → NotedReturned (noting numbers (counted image numbers output (call numbers))) r m e image numbers output
  noted-miscounted h p same =
      record { returned = miscounted call image numbers output h p; notes = rw (ne_eqb (length numbers) 32 h) same }
