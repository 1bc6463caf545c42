-- The register makes the field, which has 16 bits.
-- Assumes nothing.
use mathlib.Core.Path.{◌≡◌, refl, sym, ap, ap₂, ◌∙◌}
use mathlib.Core.List.{List}
use Prim.Native.Nat.{ℕ, zero, suc, ◌+◌, ◌*◌, ◌^◌, ◌<◌}
use native.Mathlib.Omega.{arith}
use native.Mathlib.Nat.{add-zero}
use native.Mathlib.Numerals.{add-one}
use lib.Bits.{xor_comm, xor_lt}
use lib.Dec.{lit<}
use lib.ListN.{length}
use Rattle.octets.specs.Lists.{octet, Octets}
use Rattle.octets.specs.Numbers.{number, number_at}
use Rattle.octets.specs.Xor.{◌⊕◌}
use Rattle.octets.proofs.Numbers.{number-add, number_at-lt, octet_powers}
use Rattle.check_field.specs.Polynomials.{remainder}
use Rattle.check_field.specs.CheckField.{L, check_field_of, check_field}
use Rattle.check_field.specs.Register.{shifts, entered, after_bits, register}
use Rattle.check_field.proofs.Division.{remainder-xor, remainder-shifts}
use Rattle.check_field.proofs.Entering.{after-after, entered-after}
use Rattle.check_field.proofs.Shifting.{shifts-lt}

-- the formula as bits that enter the preset
field-after : (n : ℕ) (s : List ℕ) → check_field_of n s ≡ after_bits (8 * n) L (number n s)
unfolding check_field_of after_bits remainder
field-after n s =
    let preset : remainder (8 * n) (L * 2 ^ (8 * n)) ≡ shifts (8 * n) L =
    ap (λ (k : ℕ). remainder k (L * 2 ^ (8 * n))) (sym (add-zero (8 * n))) ∙ remainder-shifts (8 * n) 0 L
    in
    remainder-xor (8 * n) (number n s * 2 ^ 16) (L * 2 ^ (8 * n))
    ∙ ap (λ (x : ℕ). remainder (8 * n) (number n s * 2 ^ 16) ⊕ x) preset
    ∙ xor_comm (remainder (8 * n) (number n s * 2 ^ 16)) (shifts (8 * n) L)

-- k octets more
pub field_more : (n k : ℕ) (s : List ℕ) → Octets s → check_field_of (n + k) s ≡ after_bits (8 * k) (check_field_of n s) (number_at n k s)
field_more n k s h =
    let w : ℕ = number_at n k s in
    let bits : 8 * (n + k) ≡ 8 * k + 8 * n = omega arith in
    let power : 2 ^ (8 * k) ≡ 256 ^ k = octet_powers k in
    field-after (n + k) s
    ∙ ap₂ (λ (j m : ℕ). after_bits j L m) bits (number-add n k s ∙ ap (λ (p : ℕ). number n s * p + w) (sym power))
    ∙ sym (after-after (8 * k) (8 * n) L (number n s) w (rw power (number_at-lt n k s h)))
    ∙ ap (λ (r : ℕ). after_bits (8 * k) r w) (sym (field-after n s))

pub field_step : (n : ℕ) (s : List ℕ) → octet s n < 256 → check_field_of (suc n) s ≡ entered (check_field_of n s) (octet s n)
unfolding number
field_step n s h =
    let bits : 8 * suc n ≡ 8 + 8 * n = omega arith in
    field-after (suc n) s
    ∙ ap (λ (j : ℕ). after_bits j L (number n s * 256 + octet s n)) bits
    ∙ sym (after-after 8 (8 * n) L (number n s) (octet s n) h)
    ∙ ap (λ (r : ℕ). after_bits 8 r (octet s n)) (sym (field-after n s))
    ∙ sym (entered-after (check_field_of n s) (octet s n))

-- no octets: the preset
pub field-none : (s : List ℕ) → check_field_of 0 s ≡ L
unfolding check_field_of number remainder
field-none s = refl

pub field-register : (n : ℕ) (s : List ℕ) → Octets s → check_field_of n s ≡ register n s
unfolding register
field-register zero s h = field-none s
field-register (suc n) s h = field_step n s (h n) ∙ ap (λ (r : ℕ). entered r (octet s n)) (field-register n s h)

pub field_of_lt : (n : ℕ) (s : List ℕ) → Octets s → check_field_of n s < 65536
field_of_lt zero s h = rw (field-none s) (lit< tt)
field_of_lt (suc n) s h =
    rw (field_step n s (h n))
    (shifts-lt 8 (check_field_of n s ⊕ octet s n * 256) (xor_lt 16 (check_field_of n s) (octet s n * 256) (field_of_lt n s h) (omega (arith, h n))))

-- ---- loops that let the words of 64 bits enter one by one, and the octets

pub field-next-word : (n : ℕ) (s : List ℕ) (r t w : ℕ) → Octets s → r ≡ check_field_of (n * 8) s → w ≡ number_at (n * 8) 8 s → t ≡ after_bits 64 r w
    → t ≡ check_field_of ((n + 1) * 8) s
field-next-word n s r t w h e f g =
    let place : n * 8 + 8 ≡ (n + 1) * 8 = omega arith in
    g ∙ ap₂ (after_bits 64) e f ∙ sym (field_more (n * 8) 8 s h) ∙ ap (λ (k : ℕ). check_field_of k s) place

pub field_next : (i : ℕ) (s : List ℕ) (r r' : ℕ) → octet s i < 256 → r ≡ check_field_of i s → r' ≡ entered r (octet s i) → r' ≡ check_field_of (i + 1) s
field_next i s r r' h e e' = rw add-one (e' ∙ ap (λ (x : ℕ). entered x (octet s i)) e ∙ sym (field_step i s h))

pub field-all : (i : ℕ) (s : List ℕ) (r : ℕ) → i ≡ length s → r ≡ check_field_of i s → r ≡ check_field s
unfolding check_field
field-all i s r l e = e ∙ ap (λ (n : ℕ). check_field_of n s) l
