-- The test as one of numbers: the last two octets, read as a number, are the field; and no frame below two octets passes it.
-- Assumes nothing.
use mathlib.Core.Path.{◌≡◌, sym, ap, ap₂, ◌∙◌}
use mathlib.Core.Bool.{false}
use mathlib.Core.List.{List, [], ◌∷◌}
use Prim.Native.Nat.{ℕ, ◌+◌, ◌-◌, ◌*◌, ◌/◌, ◌%◌, ◌≤◌, ◌<◌}
use native.Mathlib.Decide.{ℕ_discrete}
use native.Mathlib.Nat.{div-one}
use native.Mathlib.Omega.{arith}
use borrow.Author.Tests.{eq-eqb, ne_eqb}
use lib.Dec.{eqb}
use lib.ListN.{length, drop, length-drop}
use lib.Seq.{get_or-drop}
use Rattle.octets.specs.Lists.{Octets}
use Rattle.octets.specs.Numbers.{number, number_at, bytes}
use Rattle.octets.specs.Same.{same}
use Rattle.octets.proofs.Numbers.{length-bytes, number-bytes}
use Rattle.octets.proofs.Sameness.{same_refl, same_ne}
use Rattle.check_field.specs.CheckField.{check_field_of, right_field}
use Rattle.check_field.proofs.Fields.{field_of_lt}

-- two octets are those of their number
bytes-two : (a b : ℕ) → a < 256 → b < 256 → bytes 2 (number 2 (a ∷ b ∷ [])) ≡ a ∷ b ∷ []
unfolding bytes number
bytes-two a b ha hb =
    let n : ℕ = (0 * 256 + a) * 256 + b in
    let high : n / 256 % 256 ≡ a = omega arith in
    let low : n / 1 % 256 ≡ b = ap (λ (x : ℕ). x % 256) (div-one n) ∙ omega arith in
    ap₂ (λ (x y : ℕ). x ∷ y ∷ []) high low

bytes_back : (s : List ℕ) → length s ≡ 2 → Octets s → bytes 2 (number 2 s) ≡ s
bytes_back [] l h = absurd (omega arith)
bytes_back (a ∷ []) l h = absurd (omega arith)
bytes_back (a ∷ b ∷ []) l h = bytes-two a b (h 0) (h 1)
bytes_back (a ∷ b ∷ x ∷ s) l h = absurd (omega arith)

by_number : (s : List ℕ) (f : ℕ) → length s ≡ 2 → Octets s → f < 65536 → Dec (number 2 s ≡ f) → same s (bytes 2 f) ≡ eqb (number 2 s) f
by_number s f l h small (yes e) =
    ap (same s) (ap (bytes 2) (sym e) ∙ bytes_back s l h) ∙ same_refl s ∙ sym (eq-eqb (number 2 s) f e)
by_number s f l h small (no other) =
    same_ne s (bytes 2 f) (λ e. other (ap (number 2) e ∙ number-bytes 2 f small)) ∙ sym (ne_eqb (number 2 s) f other)

pub right-number : (s : List ℕ) → Octets s → 2 ≤ length s
    → right_field s ≡ eqb (number_at (length s - 2) 2 s) (check_field_of (length s - 2) s)
unfolding right_field
right-number s h room =
    let n : ℕ = length s - 2 in
    by_number (drop n s) (check_field_of n s) (length-drop n s ∙ omega arith) (λ i. rw (get_or-drop n s i 0) (h (n + i))) (field_of_lt n s h)
    (ℕ_discrete (number_at n 2 s) (check_field_of n s))

pub right_short : (s : List ℕ) → length s < 2 → right_field s ≡ false
unfolding right_field
right_short s short =
    let n : ℕ = length s - 2 in
    same_ne (drop n s) (bytes 2 (check_field_of n s))
    (λ e. let l : length (drop n s) ≡ 2 = ap length e ∙ length-bytes 2 (check_field_of n s) in omega (arith, length-drop n s))
