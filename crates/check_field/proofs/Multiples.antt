-- Multiples of G with four terms, its powers by 4 and by 16: x^64 + x^48 + x^20 + 1 and x^256 + x^192 + x^80 + 1. Such a multiple takes a
-- register nowhere, as it takes what one bit makes nowhere, and a register is made of bits.
-- Assumes nothing.
use mathlib.Core.Path.{◌≡◌, refl, sym, ap, ap₂, ◌∙◌}
use Prim.Native.Nat.{ℕ, zero, suc, ◌/◌, ◌%◌, ◌^◌, ◌<◌}
use native.Mathlib.Omega.{arith}
use native.Mathlib.Nat.{add_comm, mod-lt, div-add-mod'}
use native.Mathlib.Numerals.{add-one}
use lib.Dec.{lit<}
use lib.Pow.{shr_lt}
use Rattle.octets.specs.Xor.{◌⊕◌}
use Rattle.octets.proofs.XorLaws.{xor-four}
use Rattle.check_field.specs.Polynomials.{remainder}
use Rattle.check_field.specs.Register.{shift, shifts, after_bits}
use Rattle.check_field.proofs.Shifting.{shifts-xor, shifts-zero, shifts-shifts}
use Rattle.check_field.proofs.Entering.{after-zeros, after-apart, after-after}

-- ---- x^n = x^j + x^k + 1 modulo G, times r

abbrev pub Folds : ℕ → ℕ → ℕ → ℕ → Type 0
Folds n j k r = shifts n r ≡ (shifts j r ⊕ shifts k r) ⊕ r

module _ (n j k : ℕ) where
  folds_xor : (a b : ℕ) → Folds n j k a → Folds n j k b → Folds n j k (a ⊕ b)
  folds_xor a b p q =
      shifts-xor n a b
      ∙ ap₂ ◌⊕◌ p q
      ∙ xor-four (shifts j a ⊕ shifts k a) a (shifts j b ⊕ shifts k b) b
      ∙ ap (λ (x : ℕ). x ⊕ (a ⊕ b))
      (xor-four (shifts j a) (shifts k a) (shifts j b) (shifts k b) ∙ sym (ap₂ ◌⊕◌ (shifts-xor j a b) (shifts-xor k a b)))

  swapped : (m r : ℕ) → shifts m (shifts 1 r) ≡ shifts 1 (shifts m r)
  swapped m r = shifts-shifts m 1 r ∙ ap (λ (i : ℕ). shifts i r) (add_comm m 1) ∙ sym (shifts-shifts 1 m r)

  folds_shift : (r : ℕ) → Folds n j k r → Folds n j k (shifts 1 r)
  folds_shift r p =
      swapped n r
      ∙ ap (shifts 1) p
      ∙ shifts-xor 1 (shifts j r ⊕ shifts k r) r
      ∙ ap (λ (x : ℕ). x ⊕ shifts 1 r) (shifts-xor 1 (shifts j r) (shifts k r) ∙ sym (ap₂ ◌⊕◌ (swapped j r) (swapped k r)))

  folds_zeros : (m : ℕ) → Folds n j k (after_bits m 0 0)
  folds_zeros m =
      let none : Folds n j k 0 = shifts-zero n ∙ sym (ap₂ (λ (x y : ℕ). (x ⊕ y) ⊕ 0) (shifts-zero j) (shifts-zero k)) in
      rw (after-zeros m 0, shifts-zero m) none

  module _ (one : Folds n j k (after_bits 1 0 1)) where
    folds_bit : (b : ℕ) → b < 2 → Folds n j k (after_bits 1 0 b)
    folds_bit zero h = folds_zeros 1
    folds_bit (suc zero) h = one
    folds_bit (suc (suc b)) h = absurd (omega arith)

    -- so it is for what any bits make of no register, as it is for what a bit makes
    folds_after : (m w : ℕ) → w < 2 ^ m → Folds n j k (after_bits m 0 w)
    folds_after zero w h =
        let none : w ≡ 0 = omega arith in
        rw none (folds_zeros 0)
    folds_after (suc m) w h =
        let r : ℕ = after_bits m 0 (w / 2) in
        let b : ℕ = w % 2 in
        let bit : b < 2 = mod-lt w (lit< tt) in
        let half : w / 2 < 2 ^ m = shr_lt m 1 (rw (add-one m) h) in
        let split : after_bits (suc m) 0 w ≡ shifts 1 r ⊕ after_bits 1 0 b =
        sym (ap₂ (λ (i p : ℕ). after_bits i 0 p) (add_comm 1 m ∙ add-one m) (div-add-mod' w 2))
        ∙ sym (after-after 1 m 0 (w / 2) b bit)
        ∙ after-apart 1 r b
        in
        rw split (folds_xor (shifts 1 r) (after_bits 1 0 b) (folds_shift r (folds_after m (w / 2) half)) (folds_bit b bit))

-- computed for the one bit
pub fourth_power : (a : ℕ) → a < 2 ^ 64 → Folds 64 48 20 (after_bits 64 0 a)
unfolding after_bits remainder shifts shift
fourth_power a h = folds_after 64 48 20 refl 64 a h

pub sixteenth_power : (a : ℕ) → a < 2 ^ 64 → Folds 256 192 80 (after_bits 64 0 a)
unfolding after_bits remainder shifts shift
sixteenth_power a h = folds_after 256 192 80 refl 64 a h
