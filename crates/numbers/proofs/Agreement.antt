-- Document 01, 'Managed numbers': numbers that agree with the marks still do after a call. An accepted number lies at most 1,024 above the
-- last, so it asks for at most 16 stores; and once all of them are made, the entry's mark is the new number's.
-- Assumes nothing.
use mathlib.Core.Path.{◌≡◌, sym, ap, ◌∙◌}
use mathlib.Core.Bool.{true}
use mathlib.Core.List.{List}
use Prim.Native.Nat.{ℕ, ◌+◌, ◌-◌, ◌/◌, ◌≤◌, ◌<◌, min}
use native.Mathlib.Decide.{ℕ_discrete}
use native.Mathlib.Omega.{arith}
use borrow.Author.Tests.{leb-true, ltb-true}
use lib.ListN.{length, set}
use lib.Seq.{get_or-set_same, get_or-set_other}
use Rattle.octets.specs.Lists.{Octets}
use Rattle.octets.proofs.Alls.{and_left, and_right}
use Rattle.image.specs.Image.{count_of, valid_image}
use Rattle.image.specs.Image.{mark_in}
use Rattle.numbers.specs.Numbers.{greatest, number_of, agrees, accepts}
use Rattle.numbers.specs.Stores.{after_stores}
use Rattle.image.proofs.ValidImages.{valid}
use Rattle.numbers.proofs.LoadedNumbers.{agreed, agreeing}
use Rattle.numbers.proofs.AfterStores.{Raised, raised}

-- ---- which numbers are accepted

pub record Accepted (last window n : ℕ) : Type 0 where
  pub above : last < n
  pub near : n ≤ last + window
  pub fits : n ≤ greatest

pub accepted : (last window n : ℕ) → accepts last window n ≡ true → Accepted last window n
accepted last window n e =
    record {
      above = ltb-true last n (search (and_left, and_right));
      near = leb-true n (last + window) (search (and_left, and_right));
      fits = leb-true n greatest (search (and_left, and_right));
    }

module _ (image last : List ℕ) (i n : ℕ) (agree : agrees image last ≡ true) (listed : i < count_of image) where
  mark_now : number_of last i / 64 ≡ mark_in image i
  mark_now = agreed image last agree i listed

  -- ---- at most 16 stores

  pub stores-most : (window : ℕ) → window ≤ 1024 → accepts (number_of last i) window n ≡ true → n / 64 - mark_in image i ≤ 16
  stores-most window most e =
      let a : Accepted (number_of last i) window n = accepted (number_of last i) window n e in
      omega (arith, mark_now)

  -- ---- after all stores

  module _ (passed : valid_image image ≡ true) (octets : Octets image) (thirty_two : length last ≡ 32) (above : number_of last i ≤ n)
      (fits : n ≤ greatest) (j : ℕ) (enough : n / 64 - mark_in image i ≤ j) where
    facts : Raised image i (mark_in image i + min j (n / 64 - mark_in image i)) (after_stores image i n j)
    facts = raised image i n j passed octets listed fits

    -- the mark is that of the new number
    pub mark_reached : mark_in (after_stores image i n j) i ≡ n / 64
    mark_reached = omega (arith, facts.mark, mark_now)

    -- the new numbers agree with the new marks
    pub still_agrees : agrees (after_stores image i n j) (set last i n) ≡ true
    still_agrees = agreeing (after_stores image i n j) (set last i n) (λ k h. by-entry k (rw facts.count at h) (ℕ_discrete k i))
      where
        inside : i < length last
        inside = omega (arith, (valid image passed).laid.count)

        by-entry : (k : ℕ) → k < count_of image → Dec (k ≡ i) → number_of (set last i n) k / 64 ≡ mark_in (after_stores image i n j) k
        by-entry k h (yes e) = rw e (ap (λ (x : ℕ). x / 64) (get_or-set_same last i n 0 inside) ∙ sym mark_reached)
        by-entry k h (no other) =
            ap (λ (x : ℕ). x / 64) (get_or-set_other last i k n 0 other) ∙ agreed image last agree k h ∙ sym (facts.other_mark k other)
