-- CCSDS 232.0 and CCSDS 132.0, decoding: a frame has a right field if and only if the register is zero after all its octets, those of the
-- field among them.
-- Assumes nothing.
use mathlib.Core.Path.{◌≡◌, sym, ap, ◌∙◌}
use mathlib.Core.List.{List, [], ◌∷◌}
use Prim.Native.Nat.{ℕ, suc, ◌+◌, ◌-◌, ◌*◌, ◌<◌}
use native.Mathlib.Decide.{ℕ_discrete}
use native.Mathlib.Numerals.{add-one}
use native.Mathlib.Omega.{arith}
use borrow.Author.Tests.{eq-eqb, ne_eqb}
use lib.Bits.{xor_self, xor_shifted}
use lib.Dec.{eqb}
use lib.ListN.{length}
use Rattle.octets.specs.Lists.{octet, Octets}
use Rattle.octets.specs.Numbers.{number_at}
use Rattle.octets.specs.Xor.{◌⊕◌}
use Rattle.octets.proofs.Reading.{number_at-two}
use Rattle.octets.proofs.XorLaws.{xor_assoc, xor-none}
use Rattle.check_field.specs.CheckField.{L, check_field_of, check_field, right_field}
use Rattle.check_field.specs.Register.{shifts, entered}
use Rattle.check_field.proofs.Fields.{field-none, field_step}
use Rattle.check_field.proofs.Testing.{right-number, right_short}
use Rattle.check_field.proofs.Shifting.{shifts-xor, shifts_none, shifts-small, shifts-zero}

-- two octets more: sixteen shifts of the field with their number added
two_more : (n : ℕ) (s : List ℕ) → Octets s → check_field_of (n + 2) s ≡ shifts 8 (shifts 8 (check_field_of n s ⊕ number_at n 2 s))
two_more n s h =
    let f : ℕ = check_field_of n s in
    let a : ℕ = octet s n in
    let b : ℕ = octet s (n + 1) in
    let e : n + 2 ≡ suc (n + 1) = omega arith in
    let low : b * 256 ≡ shifts 8 b = sym (shifts-small 8 b (omega (arith, h (n + 1)))) in
    let joined : a * 256 ⊕ b ≡ number_at n 2 s = xor_shifted a 8 b (h (n + 1)) ∙ sym (number_at-two n s) in
    ap (λ (k : ℕ). check_field_of k s) e
    ∙ field_step (n + 1) s (h (n + 1))
    ∙ ap (λ (r : ℕ). entered r b) (ap (λ (k : ℕ). check_field_of k s) (add-one n) ∙ field_step n s (h n))
    ∙ ap (shifts 8) (ap (λ (x : ℕ). shifts 8 (f ⊕ a * 256) ⊕ x) low ∙ sym (shifts-xor 8 (f ⊕ a * 256) b))
    ∙ ap (λ (x : ℕ). shifts 8 (shifts 8 x)) (xor_assoc f (a * 256) b ∙ ap (λ (x : ℕ). f ⊕ x) joined)

-- so both tests ask the same of a frame that holds a field
by_number : (n : ℕ) (s : List ℕ) → Octets s → Dec (number_at n 2 s ≡ check_field_of n s)
    → eqb (number_at n 2 s) (check_field_of n s) ≡ eqb (check_field_of (n + 2) s) 0
by_number n s h (yes e) =
    let none : check_field_of (n + 2) s ≡ 0 =
    two_more n s h
    ∙ ap (λ (x : ℕ). shifts 8 (shifts 8 x)) (ap (λ (x : ℕ). check_field_of n s ⊕ x) e ∙ xor_self (check_field_of n s))
    ∙ ap (shifts 8) (shifts-zero 8)
    ∙ shifts-zero 8
    in
    eq-eqb (number_at n 2 s) (check_field_of n s) e ∙ sym (eq-eqb (check_field_of (n + 2) s) 0 none)
by_number n s h (no differ) =
    let some : check_field_of (n + 2) s ≡ 0 → ⊥ =
    λ z. differ
    (sym
    (xor-none (check_field_of n s) (number_at n 2 s)
    (shifts_none 8 (check_field_of n s ⊕ number_at n 2 s)
    (shifts_none 8 (shifts 8 (check_field_of n s ⊕ number_at n 2 s)) (sym (two_more n s h) ∙ z)))))
    in
    ne_eqb (number_at n 2 s) (check_field_of n s) differ ∙ sym (ne_eqb (check_field_of (n + 2) s) 0 some)

-- and neither passes one that is too short for it
one-octet : (a : ℕ) → a < 256 → L ⊕ a * 256 ≡ 0 → ⊥
one-octet a h e = let q : L ≡ a * 256 = xor-none L (a * 256) e in omega arith

pub right_syndrome : (s : List ℕ) → Octets s → right_field s ≡ eqb (check_field s) 0
unfolding check_field
right_syndrome [] h = right_short [] (omega arith) ∙ sym (ap (λ (f : ℕ). eqb f 0) (field-none []))
right_syndrome (a ∷ []) h =
    right_short (a ∷ []) (omega arith)
    ∙ sym
    (ne_eqb (check_field_of 1 (a ∷ [])) 0
    (λ e. one-octet a (h 0)
    (shifts_none 8 (L ⊕ a * 256)
    (ap (λ (r : ℕ). entered r a) (sym (field-none (a ∷ []))) ∙ sym (field_step 0 (a ∷ []) (h 0)) ∙ e))))
right_syndrome (a ∷ b ∷ s) h =
    let n : length (a ∷ b ∷ s) - 2 ≡ length s = omega arith in
    let e : length s + 2 ≡ length (a ∷ b ∷ s) = omega arith in
    right-number (a ∷ b ∷ s) h (omega arith)
    ∙ ap (λ (k : ℕ). eqb (number_at k 2 (a ∷ b ∷ s)) (check_field_of k (a ∷ b ∷ s))) n
    ∙ by_number (length s) (a ∷ b ∷ s) h (ℕ_discrete (number_at (length s) 2 (a ∷ b ∷ s)) (check_field_of (length s) (a ∷ b ∷ s)))
    ∙ ap (λ (k : ℕ). eqb (check_field_of k (a ∷ b ∷ s)) 0) e
