-- The image and the numbers after a call that answers 0, whole or cut: the mark of its entry is higher by the stores that were made, and
-- nothing else of the image differs; once all are made, the numbers agree again.
-- Assumes nothing.
use Prim.Native.Nat.{ℕ, ◌+◌, ◌-◌, ◌/◌, ◌≤◌, ◌<◌, min}
use mathlib.Core.Path.{◌≡◌, sym, ap, ◌∙◌}
use mathlib.Core.Logic.{◌⊎◌, inl, inr}
use mathlib.Core.Bool.{true}
use mathlib.Core.List.{List}
use native.Mathlib.Omega.{arith}
use lib.ListN.{length, set, take}
use lib.Seq.{length_front, length-take-le, drop_at, take_all}
use Rattle.octets.specs.Lists.{Octets}
use Rattle.marks.specs.Gray.{gray}
use Rattle.image.specs.Image.{mark_in, mark_at}
use Rattle.numbers.specs.Numbers.{agrees}
use Rattle.marks.specs.Stores.{stored}
use Rattle.numbers.specs.Stores.{after_stores}
use Rattle.numbers.proofs.AfterStores.{Raised, raised}
use Rattle.numbers.proofs.Agreement.{still_agrees}
use Rattle.numbers.proofs.LoadedNumbers.{agreed}
use Rattle.octets.proofs.Outside.{Outside}
use Rattle.link.specs.Calls.{done}
use Rattle.judging.specs.Replies.{Reply}
use Rattle.judging.specs.Said.{Said}
use Rattle.link.proofs.Leaving.{handed-result}
use Rattle.promises.specs.Images.{mark_place, last_at}
use Rattle.promises.specs.Leaves.{MarkAlone, Leaves}
use Rattle.promises.proofs.Fields.{mark-place}
use Rattle.promises.proofs.Used.{Used, planned}
use Rattle.promises.proofs.Valids.{code_of_mark, rules-kept, agreement}

pub outside : (image : List ℕ) (e p : ℕ) → (p < mark_place image e) ⊎ (mark_place image e + 4 ≤ p) → Outside (mark_at image e) 4 p
outside image e p (inl h) = inl (omega (arith, mark-place image e))
outside image e p (inr h) = inr (omega (arith, mark-place image e))

module _ (image numbers : List ℕ) (octets : Octets image) (direction : ℕ) (said : Said) (spi : ℕ) (frame : List ℕ) (e room : ℕ) (q : Reply)
    (u : Used image numbers direction said spi frame e room q) where
  old : last_at numbers e / 64 ≡ mark_in image e
  old = agreed image numbers u.agree e u.serves.entry

  -- ---- after the first j stores

  pub raised_by : (j : ℕ) → Raised image e (mark_in image e + min j (q.number / 64 - mark_in image e)) (after_stores image e q.number j)
  raised_by j = raised image e q.number j u.valid octets u.serves.entry u.fits

  -- there are as many as the mark has to rise
  count : length q.stores ≡ q.number / 64 - mark_in image e
  count = planned image numbers direction said spi frame e room q u

  -- the image after all of them
  pub all_after : stored image q.stores ≡ after_stores image e q.number (length q.stores)
  unfolding after_stores
  all_after =
      ap (stored image)
      (sym (take_all (length q.stores) q.stores (omega arith)) ∙ ap (take (length q.stores)) u.plan)

  reached : (j : ℕ) → mark_in (after_stores image e q.number j) e ≡ last_at numbers e / 64 + min j (length q.stores)
  reached j = omega (arith, (raised_by j).mark, old, count)

  pub mark-alone : (j : ℕ) → MarkAlone image e (last_at numbers e / 64 + min j (length q.stores)) (after_stores image e q.number j)
  mark-alone j =
      let r = raised_by j in
      record {
        valid = rules-kept (after_stores image e q.number j) r.octets r.valid;
        size = r.long;
        elsewhere = λ p side. r.outside p (outside image e p side);
        mark = code_of_mark (after_stores image e q.number j) r.octets e ∙ ap gray (reached j);
      }

  -- ---- after all of them

  pub rise : last_at numbers e / 64 + length q.stores ≡ q.number / 64
  rise = omega (arith, old, count, u.above)

  pub few : length q.stores ≤ 16
  few = omega (arith, old, count, u.near)

  module _ (thirty_two : length numbers ≡ 32) where
    pub agree_again : agrees (stored image q.stores) (set numbers q.entry q.number) ≡ true
    agree_again =
        rw (all_after, u.entry)
        (still_agrees image numbers e q.number u.agree u.serves.entry u.valid octets thirty_two (omega (arith, u.above))
        u.fits (length q.stores) (omega (arith, count)))

    pub leaves : (output : List ℕ) → q.size ≤ length output → Leaves image numbers output e q.number (done q image numbers output)
    leaves output roomy =
        let n = length q.stores in
        let front = length-take-le q.size output roomy in
        let all : last_at numbers e / 64 + min n n ≡ q.number / 64 = omega (arith, rise) in
        record {
          images = rw all_after (rw all at (mark-alone n));
          agree =
              agreement (stored image q.stores) (set numbers q.entry q.number) (rw all_after (raised_by n).octets) agree_again;
          rise = rise;
          few = few;
          lasts = ap (λ (d : ℕ). set numbers d q.number) u.entry;
          size = length_front output q.result q.size (u.sized ∙ sym front);
          result = ap length (handed-result q image numbers output u.sized) ∙ u.sized;
          rest = drop_at q.result _ q.size u.sized;
        }
