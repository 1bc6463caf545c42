-- x^64 times a word, in one word: what is left of it by the fourth power of G.
-- Assumes nothing.
use mathlib.Core.Path.{◌≡◌, refl, sym, ap, ap₂, ◌∙◌}
use Prim.Native.Nat.{ℕ, ◌+◌, ◌*◌, ◌/◌, ◌%◌, ◌^◌, ◌≤◌, ◌<◌}
use native.Mathlib.Omega.{arith}
use native.Mathlib.Nat.{div-eq_of_lt, lt_of_lt_of_le}
use lib.Bits.{xor_comm, xor_lt, xor_self, xor_shr, xor_zero_r}
use lib.Dec.{lit≤}
use lib.Pow.{pow_mono, shr-shr}
use Rattle.octets.specs.Xor.{◌⊕◌}
use Rattle.octets.proofs.XorLaws.{xor_assoc, xor-four, xor-none, xor_undo}
use Rattle.check_field.specs.Register.{shifts, after_bits}
use Rattle.check_field.proofs.Sums.{xor_last}
use Rattle.check_field.proofs.Changes.{xor_cancel_left}
use Rattle.check_field.proofs.Shifting.{shifts-xor, shifts-zero}
use Rattle.check_field.proofs.Entering.{after-zeros, after-apart, after-xor}
use Rattle.check_field.proofs.Multiples.{fourth_power}
use Rattle.check_field.proofs.Words.{word_made, two_made, two-xor, moved}

-- a quotient times the fourth power of G, but for its highest term, is that term
whole : (q : ℕ) → q < 2 ^ 64
    → two_made (q / 2 ^ 16 ⊕ q / 2 ^ 44) ((q * 2 ^ 48 % 2 ^ 64 ⊕ q * 2 ^ 20 % 2 ^ 64) ⊕ q) ≡ shifts 64 (word_made q)
whole q h =
    let up : ℕ → ℕ = λ k. q * 2 ^ k % 2 ^ 64 in
    let none : after_bits 64 0 q ≡ two_made 0 q = ap (λ (r : ℕ). after_bits 64 r q) (sym (after-zeros 64 0 ∙ shifts-zero 64)) in
    sym
    (fourth_power q h
    ∙ ap₂ ◌⊕◌ (ap₂ ◌⊕◌ (sym (moved 48 16 q refl h)) (sym (moved 20 44 q refl h)) ∙ sym (two-xor (q / 2 ^ 16) (up 48) (q / 2 ^ 44) (up 20))) none
    ∙ sym (two-xor (q / 2 ^ 16 ⊕ q / 2 ^ 44) (up 48 ⊕ up 20) 0 q)
    ∙ ap (λ (x : ℕ). two_made x ((up 48 ⊕ up 20) ⊕ q)) (xor_zero_r (q / 2 ^ 16 ⊕ q / 2 ^ 44)))

regrouped : (a b c d e f : ℕ) → (((b ⊕ c) ⊕ d) ⊕ f) ⊕ (e ⊕ f) ≡ (((a ⊕ b) ⊕ (c ⊕ d)) ⊕ e) ⊕ a
regrouped a b c d e f =
    let m : ℕ = b ⊕ (c ⊕ d) in
    xor-four ((b ⊕ c) ⊕ d) f e f
    ∙ ap₂ (λ (x y : ℕ). (x ⊕ e) ⊕ y) (xor_assoc b c d) (xor_self f)
    ∙ xor_zero_r (m ⊕ e)
    ∙ ap (λ (x : ℕ). x ⊕ e) (sym (xor_undo m a) ∙ ap (λ (x : ℕ). x ⊕ a) (xor_comm m a))
    ∙ xor_last (a ⊕ m) a e
    ∙ ap (λ (x : ℕ). (x ⊕ e) ⊕ a) (sym (xor_assoc a b (c ⊕ d)))

module _ (s : ℕ) (h : s < 2 ^ 64) where
  abbrev pair : ℕ
  pair = s ⊕ s / 2 ^ 16

  abbrev quotient : ℕ
  quotient = (pair ⊕ pair / 2 ^ 32) ⊕ s / 2 ^ 44

  -- the 64 bits that are left
  abbrev rest : ℕ
  rest = (quotient * 2 ^ 48 % 2 ^ 64 ⊕ quotient * 2 ^ 20 % 2 ^ 64) ⊕ quotient

  small : quotient < 2 ^ 64
  small =
      let below : pair < 2 ^ 64 = xor_lt 64 s (s / 2 ^ 16) h (omega arith) in
      xor_lt 64 (pair ⊕ pair / 2 ^ 32) (s / 2 ^ 44) (xor_lt 64 pair (pair / 2 ^ 32) below (omega arith)) (omega arith)

  pair_shr : (k : ℕ) → pair / 2 ^ k ≡ s / 2 ^ k ⊕ s / 2 ^ (16 + k)
  pair_shr k = xor_shr s (s / 2 ^ 16) k ∙ ap (λ (x : ℕ). s / 2 ^ k ⊕ x) (shr-shr s 16 k)

  quotient_shr : (k : ℕ) → quotient / 2 ^ k ≡ ((s / 2 ^ k ⊕ s / 2 ^ (16 + k)) ⊕ (s / 2 ^ (32 + k) ⊕ s / 2 ^ (16 + (32 + k)))) ⊕ s / 2 ^ (44 + k)
  quotient_shr k =
      xor_shr (pair ⊕ pair / 2 ^ 32) (s / 2 ^ 44) k
      ∙ ap₂ ◌⊕◌ (xor_shr pair (pair / 2 ^ 32) k ∙ ap₂ ◌⊕◌ (pair_shr k) (shr-shr pair 32 k ∙ pair_shr (32 + k))) (shr-shr s 44 k)

  gone : (k : ℕ) → 64 ≤ k → s / 2 ^ k ≡ 0
  gone k l = div-eq_of_lt (lt_of_lt_of_le h (pow_mono l))

  -- what the quotient takes from above 64 bits is the word and the quotient itself
  left_over : quotient / 2 ^ 16 ⊕ quotient / 2 ^ 44 ≡ quotient ⊕ s
  left_over =
      let at : ℕ → ℕ = λ k. s / 2 ^ k in
      let first : quotient / 2 ^ 16 ≡ ((at 16 ⊕ at 32) ⊕ at 48) ⊕ at 60 =
      quotient_shr 16
      ∙ ap (λ (x : ℕ). ((at 16 ⊕ at 32) ⊕ (at 48 ⊕ x)) ⊕ at 60) (gone 64 (lit≤ tt))
      ∙ ap (λ (x : ℕ). ((at 16 ⊕ at 32) ⊕ x) ⊕ at 60) (xor_zero_r (at 48))
      in
      let second : quotient / 2 ^ 44 ≡ at 44 ⊕ at 60 =
      quotient_shr 44
      ∙ ap₂ (λ (x y : ℕ). ((at 44 ⊕ at 60) ⊕ x) ⊕ y) (ap₂ ◌⊕◌ (gone 76 (lit≤ tt)) (gone 92 (lit≤ tt))) (gone 88 (lit≤ tt))
      ∙ xor_zero_r ((at 44 ⊕ at 60) ⊕ 0)
      ∙ xor_zero_r (at 44 ⊕ at 60)
      in
      ap₂ ◌⊕◌ first second
      ∙ regrouped s (at 16) (at 32) (at 48) (at 44) (at 60)
      ∙ ap (λ (x : ℕ). ((pair ⊕ x) ⊕ at 44) ⊕ s) (sym (pair_shr 32))

  folded : word_made rest ≡ shifts 64 (word_made s)
  folded =
      let all : shifts 64 (word_made quotient) ⊕ (shifts 64 (word_made s) ⊕ word_made rest) ≡ shifts 64 (word_made quotient) ⊕ 0 =
      sym (xor_assoc (shifts 64 (word_made quotient)) (shifts 64 (word_made s)) (word_made rest))
      ∙ ap (λ (x : ℕ). x ⊕ word_made rest) (sym (shifts-xor 64 (word_made quotient) (word_made s)) ∙ ap (shifts 64) (sym (after-xor 64 0 0 quotient s)))
      ∙ sym (after-apart 64 (word_made (quotient ⊕ s)) rest)
      ∙ ap (λ (x : ℕ). two_made x rest) (sym left_over)
      ∙ whole quotient small
      ∙ sym (xor_zero_r (shifts 64 (word_made quotient)))
      in
      sym (xor-none (shifts 64 (word_made s)) (word_made rest) (xor_cancel_left (shifts 64 (word_made s) ⊕ word_made rest) 0 (shifts 64 (word_made quotient)) all))

  pub two_folded : (w : ℕ) → word_made (rest ⊕ w) ≡ two_made s w
  two_folded w =
      after-xor 64 0 0 rest w
      ∙ ap (λ (x : ℕ). x ⊕ word_made w) folded
      ∙ sym (after-apart 64 (word_made s) w)
