-- Document 01, 'Managed numbers': a load gives 64m + 63 for each entry and 0 elsewhere; these fit, and agree with the marks.
-- Assumes nothing.
use mathlib.Core.Path.{◌≡◌, sym, ap, ◌∙◌}
use mathlib.Core.Bool.{true, cond}
use mathlib.Core.List.{List}
use Prim.Native.Nat.{ℕ, ◌/◌, ◌^◌, ◌≤◌, ◌<◌}
use native.Mathlib.Decide.{dec_lt}
use native.Mathlib.Omega.{arith}
use borrow.Author.Tests.{eqb-true, eq-eqb, le-ltb, lt-ltb}
use lib.Dec.{eqb, ltb}
use lib.ListN.{length, get_or-eq_default}
use Rattle.octets.proofs.Alls.{all-at, all_every}
use Rattle.octets.proofs.Rules.{length-tab, octet-tab}
use Rattle.image.specs.Image.{count_of}
use Rattle.image.specs.Image.{mark_in}
use Rattle.numbers.specs.Numbers.{greatest, number_of, loaded_number, loaded_numbers, agrees}

-- ---- numbers and marks

-- the mark of a number that there is, and back
pub mark_fits : (n : ℕ) → n ≤ greatest → n / 64 < 2 ^ 26
mark_fits n h = omega arith

pub loaded-mark : (m : ℕ) → loaded_number m / 64 ≡ m
loaded-mark m = omega arith

-- ---- what a load gives

pub length-loaded : (image : List ℕ) → length (loaded_numbers image) ≡ 32
unfolding loaded_numbers
length-loaded image = length-tab 32 _

loaded_at : (image : List ℕ) (i : ℕ) → i < 32
    → number_of (loaded_numbers image) i ≡ cond (ltb i (count_of image)) (loaded_number (mark_in image i)) 0
unfolding loaded_numbers
loaded_at image i h = octet-tab 32 _ i h

-- of an entry, and elsewhere
pub loaded-entry : (image : List ℕ) → count_of image ≤ 32 → (i : ℕ) → i < count_of image
    → number_of (loaded_numbers image) i ≡ loaded_number (mark_in image i)
loaded-entry image most i h = loaded_at image i (omega arith) ∙ simp (lt-ltb i (count_of image) h)

pub loaded-none : (image : List ℕ) (i : ℕ) → count_of image ≤ i → number_of (loaded_numbers image) i ≡ 0
loaded-none image i h = by_place (dec_lt i 32)
  where
    by_place : Dec (i < 32) → number_of (loaded_numbers image) i ≡ 0
    by_place (yes l) = loaded_at image i l ∙ simp (le-ltb i (count_of image) h)
    by_place (no g) = get_or-eq_default (loaded_numbers image) 0 (omega (arith, length-loaded image))

-- two images with as many entries, of which this one has the same mark
pub loaded-same : (image other : List ℕ) (i : ℕ) → count_of other ≡ count_of image → mark_in other i ≡ mark_in image i
    → number_of (loaded_numbers other) i ≡ number_of (loaded_numbers image) i
loaded-same image other i count mark = by_place (dec_lt i 32)
  where
    by_place : Dec (i < 32) → number_of (loaded_numbers other) i ≡ number_of (loaded_numbers image) i
    by_place (yes l) = cc (loaded_at image i l, loaded_at other i l)
    by_place (no g) =
        get_or-eq_default (loaded_numbers other) 0 (omega (arith, length-loaded other))
        ∙ sym (get_or-eq_default (loaded_numbers image) 0 (omega (arith, length-loaded image)))

-- ---- agreement

-- each entry's number agrees with its mark
pub agreed : (image last : List ℕ) → agrees image last ≡ true → (i : ℕ) → i < count_of image → number_of last i / 64 ≡ mark_in image i
unfolding agrees
agreed image last e i h =
    eqb-true (number_of last i / 64) (mark_in image i)
    (all-at (count_of image) (λ j. eqb (number_of last j / 64) (mark_in image j)) e i h)

pub agreeing : (image last : List ℕ) → ((i : ℕ) → i < count_of image → number_of last i / 64 ≡ mark_in image i) → agrees image last ≡ true
unfolding agrees
agreeing image last h = all_every (count_of image) _ (λ i l. eq-eqb (number_of last i / 64) (mark_in image i) (h i l))

-- what a load gives
pub load-agrees : (image : List ℕ) → count_of image ≤ 32 → agrees image (loaded_numbers image) ≡ true
load-agrees image most =
    agreeing image (loaded_numbers image)
    (λ i h. ap (λ (n : ℕ). n / 64) (loaded-entry image most i h) ∙ loaded-mark (mark_in image i))
