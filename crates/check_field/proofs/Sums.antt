-- Sums of polynomials: regrouped, times a coefficient, times a power of x.
-- Assumes nothing.
use mathlib.Core.Path.{◌≡◌, sym, ap, ap₂, ◌∙◌}
use Prim.Native.Nat.{ℕ, ◌*◌, ◌/◌, ◌%◌, ◌^◌}
use native.Mathlib.Nat.{mod-lt, add-zero}
use lib.Bits.{xor_comm, xor_shr, xor_block}
use lib.Dec.{lit<}
use lib.Pow.{pow_pos}
use Rattle.octets.specs.Xor.{◌⊕◌}
use Rattle.octets.proofs.XorLaws.{xor_assoc, xor-odd, bit_scale}
use Rattle.check_field.specs.Polynomials.{coefficient}

-- (a + b) + c = (a + c) + b
pub xor_last : (a b c : ℕ) → (a ⊕ b) ⊕ c ≡ (a ⊕ c) ⊕ b
xor_last a b c = xor_assoc a b c ∙ ap (λ (x : ℕ). a ⊕ x) (xor_comm b c) ∙ sym (xor_assoc a c b)

-- what a sum has at x^i, times n
pub scale_xor : (a b i n : ℕ) → coefficient (a ⊕ b) i * n ≡ coefficient a i * n ⊕ coefficient b i * n
scale_xor a b i n =
    ap (λ (p : ℕ). p % 2 * n) (xor_shr a b i)
    ∙ ap (λ (c : ℕ). c * n) (xor-odd (a / 2 ^ i) (b / 2 ^ i))
    ∙ bit_scale (coefficient a i) (coefficient b i) n (mod-lt (a / 2 ^ i) (lit< tt)) (mod-lt (b / 2 ^ i) (lit< tt))

-- a sum times x^k
pub xor_scaled : (k a b : ℕ) → (a ⊕ b) * 2 ^ k ≡ a * 2 ^ k ⊕ b * 2 ^ k
xor_scaled k a b =
    sym (add-zero ((a ⊕ b) * 2 ^ k))
    ∙ sym (xor_block k a b 0 0 (pow_pos k) (pow_pos k))
    ∙ ap₂ ◌⊕◌ (add-zero (a * 2 ^ k)) (add-zero (b * 2 ^ k))
