-- What the layers above rest on: a message with its field passes the test, and a frame that passes it fails it once one octet or one bit is
-- changed, be it in the message or in the field.
-- Assumes nothing.
use mathlib.Core.Path.{◌≡◌, refl, sym, ap, ap₂, ◌∙◌}
use mathlib.Core.Bool.{true, false}
use mathlib.Core.List.{List, ◌++◌}
use Prim.Native.Nat.{ℕ, ◌+◌, ◌-◌, ◌*◌, ◌^◌, ◌≤◌, ◌<◌}
use native.Mathlib.Decide.{dec_lt, ℕ_discrete}
use native.Mathlib.Omega.{arith}
use borrow.Author.Tests.{ne_eqb, eqb-true}
use lib.Bits.{xor_lt, xor_zero_r}
use lib.Dec.{eqb}
use lib.ListN.{length, set, take, drop, length-append, length-set, get_or-append}
use lib.Pow.{pow_pos, pow-lt}
use lib.Seq.{get_or-set_same, get_or-set_other, get_or-take, length-take-le, drop_at}
use Rattle.octets.specs.Lists.{octet, Octets}
use Rattle.octets.specs.Numbers.{number_at, bytes}
use Rattle.octets.specs.Same.{same}
use Rattle.octets.specs.Xor.{◌⊕◌}
use Rattle.octets.proofs.Bounds.{octets-set}
use Rattle.octets.proofs.Numbers.{length-bytes, number_at-same}
use Rattle.octets.proofs.Reading.{number_at-two}
use Rattle.octets.proofs.Sameness.{same_refl}
use Rattle.check_field.specs.CheckField.{check_field_of, check_field, with_field, right_field}
use Rattle.check_field.proofs.Changes.{field-same, fields-part, xor_cancel_left}
use Rattle.check_field.proofs.Testing.{right-number, right_short}

-- of the front of a list
field-front : (a b : List ℕ) (n : ℕ) → length a ≡ n → check_field_of n (a ++ b) ≡ check_field a
unfolding check_field
field-front a b n l =
    field-same n (a ++ b) a (λ i h. get_or-append a b 0 i (omega arith)) ∙ ap (λ (k : ℕ). check_field_of k a) (sym l)

pub field-take : (n : ℕ) (s : List ℕ) → n ≤ length s → check_field (take n s) ≡ check_field_of n s
unfolding check_field
field-take n s h =
    ap (λ (k : ℕ). check_field_of k (take n s)) (length-take-le n s h) ∙ field-same n (take n s) s (λ i l. get_or-take n s i 0 l)

-- ---- a message with its field

pub right_with : (m : List ℕ) → right_field (with_field m) ≡ true
unfolding right_field with_field
right_with m =
    let field : List ℕ = bytes 2 (check_field m) in
    let n : length (m ++ field) - 2 ≡ length m = omega (arith, length-append m field, length-bytes 2 (check_field m)) in
    ap (λ (k : ℕ). same (drop k (m ++ field)) (bytes 2 (check_field_of k (m ++ field)))) n
    ∙ ap₂ (λ (s : List ℕ) (f : ℕ). same s (bytes 2 f)) (drop_at m field (length m) refl) (field-front m field (length m) refl)
    ∙ same_refl field

-- ---- one octet changed

module _ (s : List ℕ) (p v : ℕ) (hs : Octets s) (l : p < length s) (hv : v < 256) (new : octet s p ≡ v → ⊥) where
  there : octet (set s p v) p ≡ v
  there = get_or-set_same s p v 0 l

  elsewhere : (i : ℕ) → (i ≡ p → ⊥) → octet s i ≡ octet (set s p v) i
  elsewhere i other = sym (get_or-set_other s p i v 0 other)

  first_part : (n : ℕ) → p < n → check_field_of n s ≡ check_field_of n (set s p v) → ⊥
  first_part n h = fields-part s (set s p v) p hs (octets-set s p v hs hv) (λ e. new (e ∙ there)) elsewhere n h

  -- the number of two octets, one of which is the changed one
  number-part : (n : ℕ) → n ≤ p → p < n + 2 → number_at n 2 (set s p v) ≡ number_at n 2 s → ⊥
  number-part n a b e =
      let two : octet (set s p v) n * 256 + octet (set s p v) (n + 1) ≡ octet s n * 256 + octet s (n + 1) =
      sym (number_at-two n (set s p v)) ∙ e ∙ number_at-two n s
      in
      by_place two (ℕ_discrete n p)
    where
      by_place : octet (set s p v) n * 256 + octet (set s p v) (n + 1) ≡ octet s n * 256 + octet s (n + 1) → Dec (n ≡ p) → ⊥
      by_place two (yes q) =
          let h : octet (set s p v) (n + 1) ≡ octet s (n + 1) = sym (elsewhere (n + 1) (λ k. omega arith)) in
          let g : octet (set s p v) n ≡ octet s n = omega arith in
          new (sym (ap (octet s) q) ∙ sym g ∙ ap (octet (set s p v)) q ∙ there)
      by_place two (no other) =
          let q : n + 1 ≡ p = omega arith in
          let h : octet (set s p v) n ≡ octet s n = sym (elsewhere n other) in
          let g : octet (set s p v) (n + 1) ≡ octet s (n + 1) = omega arith in
          new (sym (ap (octet s) q) ∙ sym g ∙ ap (octet (set s p v)) q ∙ there)

  by_part : number_at (length s - 2) 2 s ≡ check_field_of (length s - 2) s → Dec (p < length s - 2)
      → number_at (length s - 2) 2 (set s p v) ≡ check_field_of (length s - 2) (set s p v) → ⊥
  by_part right (yes h) same =
      first_part (length s - 2) h
      (sym right ∙ number_at-same (length s - 2) 2 s (set s p v) (λ i k. elsewhere (length s - 2 + i) (λ q. omega arith)) ∙ same)
  by_part right (no g) same =
      number-part (length s - 2) (omega arith) (omega arith)
      (same ∙ sym (field-same (length s - 2) s (set s p v) (λ i k. elsewhere i (λ q. omega arith))) ∙ sym right)

  by-room : right_field s ≡ true → Dec (length s < 2) → right_field (set s p v) ≡ false
  by-room e (yes short) = right_short (set s p v) (omega (arith, length-set s p v))
  by-room e (no g) =
      let n : ℕ = length s - 2 in
      let room : 2 ≤ length s = omega arith in
      let right : number_at n 2 s ≡ check_field_of n s = eqb-true (number_at n 2 s) (check_field_of n s) (sym (right-number s hs room) ∙ e) in
      right-number (set s p v) (octets-set s p v hs hv) (omega (arith, length-set s p v))
      ∙ ap (λ (k : ℕ). eqb (number_at (k - 2) 2 (set s p v)) (check_field_of (k - 2) (set s p v))) (length-set s p v)
      ∙ ne_eqb (number_at n 2 (set s p v)) (check_field_of n (set s p v)) (by_part right (dec_lt p n))

  right_changed : right_field s ≡ true → right_field (set s p v) ≡ false
  right_changed e = by-room e (dec_lt (length s) 2)

-- ---- one bit changed

module _ (s : List ℕ) (p b : ℕ) (hs : Octets s) (l : p < length s) (hb : b < 8) where
  octet-flipped : octet s p ⊕ 2 ^ b < 256
  octet-flipped = xor_lt 8 (octet s p) (2 ^ b) (hs p) (pow-lt hb)

  other-octet : octet s p ≡ octet s p ⊕ 2 ^ b → ⊥
  other-octet e =
      let none : 0 ≡ 2 ^ b = xor_cancel_left 0 (2 ^ b) (octet s p) (xor_zero_r (octet s p) ∙ e) in
      omega (arith, pow_pos b)

  pub right-flipped : right_field s ≡ true → right_field (set s p (octet s p ⊕ 2 ^ b)) ≡ false
  right-flipped = right_changed s p (octet s p ⊕ 2 ^ b) hs l octet-flipped other-octet
