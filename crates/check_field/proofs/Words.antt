-- The register by words of 64 bits: x^k times a word in two words, and a word that enters four.
-- Assumes nothing.
use mathlib.Core.Path.{◌≡◌, refl, sym, ap, ap₂, ◌∙◌}
use Prim.Native.Nat.{ℕ, ◌+◌, ◌*◌, ◌/◌, ◌%◌, ◌^◌, ◌<◌}
use native.Mathlib.Omega.{arith}
use native.Mathlib.Nat.{add_comm, add-zero, zero-add, zero-mul, mod-lt, div-add-mod'}
use lib.Dec.{lit<}
use lib.Pow.{pow_pos, shl_lt, shl-shr, shr-shr}
use Rattle.octets.specs.Xor.{◌⊕◌}
use Rattle.check_field.specs.Polynomials.{remainder}
use Rattle.check_field.specs.CheckField.{L}
use Rattle.check_field.specs.Register.{shift, shifts, after_bits, four_words}
use Rattle.check_field.proofs.Shifting.{shifts-xor, shifts-zero, shifts-shifts}
use Rattle.check_field.proofs.Entering.{after-zeros, after-apart, after-shifted, after-xor, after-after}
use Rattle.check_field.proofs.Multiples.{sixteenth_power}

-- ---- x^k times a word, in two words

-- what a word makes of no register
abbrev pub word_made : ℕ → ℕ
word_made a = after_bits 64 0 a

-- what two words make of it
abbrev pub two_made : ℕ → ℕ → ℕ
two_made a b = after_bits 64 (word_made a) b

pub two-xor : (a b p q : ℕ) → two_made (a ⊕ p) (b ⊕ q) ≡ two_made a b ⊕ two_made p q
two-xor a b p q = ap (λ (x : ℕ). after_bits 64 x (b ⊕ q)) (after-xor 64 0 0 a p) ∙ after-xor 64 (word_made a) (word_made p) b q

pub moved : (k j a : ℕ) → k + j ≡ 64 → a < 2 ^ 64 → two_made (a / 2 ^ j) (a * 2 ^ k % 2 ^ 64) ≡ shifts k (word_made a)
moved k j a e h =
    let up : ℕ = a * 2 ^ k in
    let small : up < 2 ^ (k + 64) = rw (add_comm k 64) (shl_lt 64 k h) in
    let high : a / 2 ^ j ≡ up / 2 ^ 64 =
    ap (λ (q : ℕ). q / 2 ^ j) (sym (shl-shr a k)) ∙ shr-shr up k j ∙ ap (λ (m : ℕ). up / 2 ^ m) e
    in
    let bits : 128 ≡ k + 64 + j = omega arith in
    ap (λ (x : ℕ). two_made x (up % 2 ^ 64)) high
    ∙ after-after 64 64 0 (up / 2 ^ 64) (up % 2 ^ 64) (mod-lt up (lit< tt))
    ∙ ap₂ (λ (m p : ℕ). after_bits m 0 p) bits (div-add-mod' up (2 ^ 64) ∙ sym (rw (zero-mul, zero-add)))
    ∙ sym (after-after (k + 64) j 0 0 up small)
    ∙ ap₂ (after_bits (k + 64)) (after-zeros j 0 ∙ shifts-zero j) (sym (add-zero up))
    ∙ sym (after-after k 64 0 a 0 (pow_pos k))
    ∙ after-zeros k (word_made a)

-- ---- a word enters four words

-- the words with which a message begins make the preset
pub words_none : four_words 0 0 0 0x84cf ≡ L
unfolding after_bits shifts shift remainder
words_none = refl

four-xor : (a b c d p q r s : ℕ) → four_words (a ⊕ p) (b ⊕ q) (c ⊕ r) (d ⊕ s) ≡ four_words a b c d ⊕ four_words p q r s
four-xor a b c d p q r s =
    ap (λ (x : ℕ). after_bits 64 (after_bits 64 x (c ⊕ r)) (d ⊕ s)) (two-xor a b p q)
    ∙ ap (λ (x : ℕ). after_bits 64 x (d ⊕ s)) (after-xor 64 (two_made a b) (two_made p q) c r)
    ∙ after-xor 64 (after_bits 64 (two_made a b) c) (after_bits 64 (two_made p q) r) d s

module _ (a : ℕ) (h : a < 2 ^ 64) where
  -- 256 bits behind it, the first word has come back at three places
  returned : shifts 256 (word_made a) ≡ four_words a (a / 2 ^ 48) (a * 2 ^ 16 % 2 ^ 64) a
  returned =
      let r : ℕ = word_made a in
      sixteenth_power a h
      ∙ ap (λ (x : ℕ). x ⊕ r) (sym (ap₂ ◌⊕◌ (shifts-shifts 64 128 r) (shifts-shifts 64 16 r)) ∙ sym (shifts-xor 64 (shifts 128 r) (shifts 16 r)))
      ∙ sym (after-apart 64 (shifts 128 r ⊕ shifts 16 r) a)
      ∙ ap (λ (x : ℕ). after_bits 64 (shifts 128 r ⊕ x) a) (sym (moved 16 48 a refl h))
      ∙ ap (λ (x : ℕ). after_bits 64 x a)
      (sym (after-shifted 64 64 r (word_made (a / 2 ^ 48)) (a * 2 ^ 16 % 2 ^ 64))
      ∙ ap (λ (x : ℕ). after_bits 64 x (a * 2 ^ 16 % 2 ^ 64)) (sym (after-apart 64 r (a / 2 ^ 48))))

  pub word_more : (b c d w : ℕ) → four_words (a ⊕ b) (a / 2 ^ 48 ⊕ c) (a * 2 ^ 16 % 2 ^ 64 ⊕ d) (a ⊕ w) ≡ after_bits 64 (four_words a b c d) w
  word_more b c d w =
      let r : ℕ = word_made a in
      four-xor a (a / 2 ^ 48) (a * 2 ^ 16 % 2 ^ 64) a b c d w
      ∙ ap (λ (x : ℕ). x ⊕ four_words b c d w) (sym returned)
      ∙ sym (after-shifted 64 192 r (after_bits 64 (two_made b c) d) w)
      ∙ ap (λ (x : ℕ). after_bits 64 x w)
      (sym (after-shifted 64 128 r (two_made b c) d)
      ∙ ap (λ (x : ℕ). after_bits 64 x d) (sym (after-shifted 64 64 r (word_made b) c) ∙ ap (λ (x : ℕ). after_bits 64 x c) (sym (after-apart 64 r b))))
