-- The remainder of a sum is the sum of the remainders, and that of x · p is that of p, shifted once more.
-- Assumes nothing.
use mathlib.Core.Path.{◌≡◌, refl, sym, ap, ap₂, ◌∙◌}
use Prim.Native.Nat.{ℕ, zero, suc, ◌+◌, ◌*◌, ◌/◌, ◌%◌, ◌^◌, ◌≤◌, ◌<◌}
use native.Mathlib.Omega.{arith}
use native.Mathlib.Nat.{add-suc, suc-add, zero-add, mul_assoc, mul-one, pow-suc, zero-mul, div-eq_of_lt, lt_of_lt_of_le}
use lib.Bits.{xor_zero_r}
use lib.Pow.{shr-shr, pow_mono}
use Rattle.octets.specs.Xor.{◌⊕◌}
use Rattle.octets.proofs.XorLaws.{xor-four}
use Rattle.check_field.specs.Polynomials.{coefficient, G, remainder}
use Rattle.check_field.specs.Register.{shift, shifts}
use Rattle.check_field.proofs.Sums.{scale_xor, xor_scaled}

pub remainder-xor : (k a b : ℕ) → remainder k (a ⊕ b) ≡ remainder k a ⊕ remainder k b
unfolding remainder
remainder-xor zero a b = refl
remainder-xor (suc k) a b =
    ap (remainder k)
    (ap (λ (x : ℕ). (a ⊕ b) ⊕ x) (scale_xor a b (16 + k) (G * 2 ^ k))
    ∙ xor-four a b (coefficient a (16 + k) * (G * 2 ^ k)) (coefficient b (16 + k) * (G * 2 ^ k)))
    ∙ remainder-xor k (a ⊕ coefficient a (16 + k) * (G * 2 ^ k)) (b ⊕ coefficient b (16 + k) * (G * 2 ^ k))

-- what x · p has at x^(i + 1) p has at x^i
coefficient_double : (p i : ℕ) → coefficient (p * 2) (suc i) ≡ coefficient p i
coefficient_double p i =
    let half : p * 2 / 2 ≡ p = omega arith in
    let e : suc i ≡ 1 + i = omega arith in
    ap (λ (n : ℕ). p * 2 / 2 ^ n % 2) e
    ∙ ap (λ (q : ℕ). q % 2) (sym (shr-shr (p * 2) 1 i))
    ∙ ap (λ (q : ℕ). q / 2 ^ i % 2) half

pub remainder_double : (k p : ℕ) → remainder (suc k) (p * 2) ≡ shift (remainder k p)
unfolding remainder shift
remainder_double zero p = ap (λ (c : ℕ). p * 2 ⊕ c * G) (coefficient_double p 15)
remainder_double (suc k) p =
    let c : ℕ = coefficient p (16 + k) in
    let here : coefficient (p * 2) (16 + suc k) ≡ c =
    ap (coefficient (p * 2)) (add-suc 16 k) ∙ coefficient_double p (16 + k)
    in
    let doubled : c * (G * 2 ^ suc k) ≡ c * (G * 2 ^ k) * 2 =
    ap (λ (n : ℕ). c * n) (ap (λ (n : ℕ). G * n) (pow-suc 2 k) ∙ sym (mul_assoc G (2 ^ k) 2)) ∙ sym (mul_assoc c (G * 2 ^ k) 2)
    in
    ap (remainder (suc k))
    (ap (λ (d : ℕ). p * 2 ⊕ d * (G * 2 ^ suc k)) here
    ∙ ap (λ (d : ℕ). p * 2 ⊕ d) doubled
    ∙ sym (xor_scaled 1 p (c * (G * 2 ^ k))))
    ∙ remainder_double k (p ⊕ c * (G * 2 ^ k))

-- x^n · p
pub remainder-shifts : (n k p : ℕ) → remainder (n + k) (p * 2 ^ n) ≡ shifts n (remainder k p)
unfolding shifts
remainder-shifts zero k p = ap₂ remainder (zero-add k) (mul-one p)
remainder-shifts (suc n) k p =
    ap₂ remainder (suc-add n k) (ap (λ (m : ℕ). p * m) (pow-suc 2 n) ∙ sym (mul_assoc p (2 ^ n) 2))
    ∙ remainder_double (n + k) (p * 2 ^ n)
    ∙ ap shift (remainder-shifts n k p)

-- of what has a degree below 16 + k a longer division takes nothing away before the last k steps
pub remainder_longer : (j k p : ℕ) → p < 2 ^ (16 + k) → remainder (j + k) p ≡ remainder k p
unfolding remainder
remainder_longer zero k p h = ap (λ (n : ℕ). remainder n p) (zero-add k)
remainder_longer (suc j) k p h =
    let n : ℕ = j + k in
    let wide : 16 + k ≤ 16 + n = omega arith in
    let none : p / 2 ^ (16 + n) ≡ 0 = div-eq_of_lt (lt_of_lt_of_le h (pow_mono wide)) in
    ap (λ (m : ℕ). remainder m p) (suc-add j k)
    ∙ ap (λ (q : ℕ). remainder n (p ⊕ q % 2 * (G * 2 ^ n))) none
    ∙ ap (λ (q : ℕ). remainder n (p ⊕ q)) (zero-mul (G * 2 ^ n))
    ∙ ap (remainder n) (xor_zero_r p)
    ∙ remainder_longer j k p h
