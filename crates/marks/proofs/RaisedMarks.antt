-- Document 01, 'Managed numbers': the stores that raise a mark, seen from the four octets that hold it. Each store changes one of them, so
-- that they hold the code of the next mark; after n stores the mark is n higher, and every other octet is as before.
-- Assumes nothing.
use mathlib.Core.Path.{◌≡◌, sym, ap, ◌∙◌}
use mathlib.Core.List.{List}
use Prim.Native.Nat.{ℕ, zero, suc, ◌+◌, ◌-◌, ◌/◌, ◌%◌, ◌^◌, ◌≤◌, ◌<◌}
use native.Mathlib.Decide.{ℕ_discrete}
use native.Mathlib.Nat.{add-zero, add_assoc}
use native.Mathlib.Numerals.{add-one}
use native.Mathlib.Omega.{arith}
use lib.ListN.{length, drop, length-set}
use lib.Seq.{get_or-drop, get_or-set_same, get_or-set_other}
use Rattle.octets.specs.Lists.{octet, Octets}
use Rattle.octets.specs.Numbers.{number_at}
use Rattle.octets.proofs.Bounds.{octets-set}
use Rattle.octets.proofs.Numbers.{octet_powers, number-octet, number_made}
use Rattle.marks.specs.Gray.{code_length, gray}
use Rattle.marks.specs.Stores.{flipped_octet, code_octet, store_of, raising_store, steps, stored}
use Rattle.marks.specs.declared.plans.Store.{Store}
use Rattle.marks.proofs.GrayCode.{gray-lt, gray-octet, flipped-lt}
use Rattle.marks.proofs.Made.{Inside, put, stored-none, stored_more}

-- the flipped bit stands in one of the four octets
pub octet_of_four : (m : ℕ) → m + 1 < 2 ^ 32 → flipped_octet m < 4
octet_of_four m h = omega (arith, flipped-lt 32 (m + 1) (omega arith) h)

-- ---- one store

-- the image stays one of octets
pub put_octets : (image : List ℕ) (at m : ℕ) → Octets image → Octets (put image (store_of at m))
put_octets image at m h = octets-set image (at + 3 - flipped_octet m) _ h (omega arith)

-- it stands in one of the four octets
pub store_inside : (at m : ℕ) → m + 1 < 2 ^ 32 → Inside at code_length (store_of at m)
store_inside at m h = let k : flipped_octet m < 4 = octet_of_four m h in (omega arith, omega arith)

-- the four octets at a place lie in the image, and hold the code of m
pub record Marked (image : List ℕ) (at m : ℕ) : Type 0 where
  pub octets : Octets image
  pub inside : at + code_length ≤ length image
  pub code : number_at at code_length image ≡ gray m

-- the octets that hold a code, each counted from the last
code_octet_lem : (image : List ℕ) (at i b : ℕ) → i + 1 + b ≡ 4 → Octets image → code_octet (number_at at 4 image) b ≡ octet image (at + i)
code_octet_lem image at i b four h =
    ap (λ (p : ℕ). number_at at 4 image / p % 256) (octet_powers b)
    ∙ ap (λ (n : ℕ). number_at at n image / 256 ^ b % 256) (sym four)
    ∙ number-octet i b (drop at image) (λ j. rw (get_or-drop at image j 0) (h (at + j)))
    ∙ get_or-drop at image i 0

-- with the store, each of them is an octet of the next mark's code: the one that is stored, and the others, which both codes share
new_octet : (image : List ℕ) (at m : ℕ) → Marked image at m → m + 1 < 2 ^ 32 → (i b : ℕ) → i + 1 + b ≡ 4
    → octet (put image (store_of at m)) (at + i) ≡ code_octet (gray (m + 1)) b
new_octet image at m held h i b four = by_place (ℕ_discrete b (flipped_octet m))
  where
    by_place : Dec (b ≡ flipped_octet m) → octet (put image (store_of at m)) (at + i) ≡ code_octet (gray (m + 1)) b
    by_place (yes e) =
        let here : at + i ≡ at + 3 - flipped_octet m = omega arith in
        ap (octet (put image (store_of at m))) here
        ∙ get_or-set_same image (at + 3 - flipped_octet m) _ 0 (omega (arith, held.inside))
        ∙ ap (code_octet (gray (m + 1))) (sym e)
    by_place (no other) =
        let k : flipped_octet m < 4 = octet_of_four m h in
        get_or-set_other image (at + 3 - flipped_octet m) (at + i) _ 0 (omega arith)
        ∙ sym (code_octet_lem image at i b four held.octets)
        ∙ ap (λ (g : ℕ). code_octet g b) held.code
        ∙ sym (gray-octet 32 m b h other)

-- so they hold the next mark
new_code : (image : List ℕ) (at m : ℕ) → Marked image at m → m + 1 < 2 ^ 32 → number_at at 4 (put image (store_of at m)) ≡ gray (m + 1)
new_code image at m held h =
    let after : List ℕ = put image (store_of at m) in
    let octet-is : (i b : ℕ) → i + 1 + b ≡ 4 → octet (drop at after) i ≡ gray (m + 1) / 256 ^ b % 256 =
    λ i b four.
    get_or-drop at after i 0 ∙ new_octet image at m held h i b four ∙ ap (λ (p : ℕ). gray (m + 1) / p % 256) (octet_powers b)
    in
    number_made 4 (gray (m + 1)) (drop at after) (gray-lt 32 (m + 1) h) octet-is

pub put_marked : (image : List ℕ) (at m : ℕ) → Marked image at m → m + 1 < 2 ^ 32 → Marked (put image (store_of at m)) at (m + 1)
put_marked image at m held h =
    record {
      octets = put_octets image at m held.octets;
      inside = rw length-set held.inside;
      code = new_code image at m held h;
    }

-- ---- several stores, while the marks fit four octets

-- the n stores that raise the mark at a place from m to m + n
abbrev pub raises : ℕ → ℕ → ℕ → List Store
raises at m n = steps n (raising_store at m)

module _ (image : List ℕ) (at m : ℕ) where
  abbrev raised : ℕ → List ℕ
  raised n = stored image (raises at m n)

  -- what holds of the image and is kept by each store holds after n of them
  kept : (P : ℕ → List ℕ → Type 0) (n : ℕ) → P 0 image
      → ((i : ℕ) → i < n → P i (raised i) → P (i + 1) (put (raised i) (store_of at (m + i)))) → P n (raised n)
  kept P zero start step = rw (stored-none (raising_store at m) image) start
  kept P (suc n) start step =
      let before : P n (raised n) = kept P n start (λ i h. step i (omega arith)) in
      rw (← add-one n, stored_more (raising_store at m) image n) (step n (omega arith) before)

  -- the image stays one of octets
  pub raises_octets : (n : ℕ) → Octets image → Octets (raised n)
  raises_octets n h = kept (λ i s. Octets s) n h (λ i l held. put_octets (raised i) at (m + i) held)

  -- the mark is n higher
  pub raises_marked : (n : ℕ) → Marked image at m → n ≤ 2 ^ 32 - 1 - m → Marked (raised n) at (m + n)
  raises_marked n held h =
      kept (λ i s. Marked s at (m + i)) n (rw add-zero held)
      (λ i l before. rw (← add_assoc m i 1) (put_marked (raised i) at (m + i) before (omega arith)))
