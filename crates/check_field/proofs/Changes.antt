-- Lists that differ in one octet have different fields: until that octet the registers agree, there they part, and equal octets behind it
-- do not bring them together again.
-- Assumes nothing.
use mathlib.Core.Path.{◌≡◌, sym, ap, ◌∙◌}
use mathlib.Core.List.{List}
use Prim.Native.Nat.{ℕ, zero, suc, ◌+◌, ◌-◌, ◌*◌, ◌^◌, ◌<◌}
use native.Mathlib.Omega.{arith}
use native.Mathlib.Nat.{add-suc, add-zero}
use lib.Bits.{xor_comm}
use Rattle.octets.specs.Lists.{octet, Octets}
use Rattle.octets.specs.Xor.{◌⊕◌}
use Rattle.octets.proofs.Numbers.{number_same}
use Rattle.octets.proofs.XorLaws.{xor_undo}
use Rattle.check_field.specs.Polynomials.{remainder}
use Rattle.check_field.specs.CheckField.{L, check_field_of}
use Rattle.check_field.specs.Register.{entered}
use Rattle.check_field.proofs.Fields.{field_step}
use Rattle.check_field.proofs.Shifting.{shifts-same}

-- lists whose first n octets agree
pub field-same : (n : ℕ) (s t : List ℕ) → ((i : ℕ) → i < n → octet s i ≡ octet t i) → check_field_of n s ≡ check_field_of n t
unfolding check_field_of
field-same n s t h = ap (λ (m : ℕ). remainder (8 * n) (m * 2 ^ 16 ⊕ L * 2 ^ (8 * n))) (number_same n s t h)

-- what is added to both sides goes
xor_cancel_right : (a b c : ℕ) → a ⊕ c ≡ b ⊕ c → a ≡ b
xor_cancel_right a b c e = sym (xor_undo a c) ∙ ap (λ (x : ℕ). x ⊕ c) e ∙ xor_undo b c

pub xor_cancel_left : (a b c : ℕ) → c ⊕ a ≡ c ⊕ b → a ≡ b
xor_cancel_left a b c e = xor_cancel_right a b c (xor_comm a c ∙ e ∙ xor_comm c b)

module _ (s t : List ℕ) (p : ℕ) (hs : Octets s) (ht : Octets t) (parts : octet s p ≡ octet t p → ⊥)
    (agree : (i : ℕ) → (i ≡ p → ⊥) → octet s i ≡ octet t i) where
  there : check_field_of (suc p) s ≡ check_field_of (suc p) t → ⊥
  there e =
      let before : check_field_of p t ≡ check_field_of p s = field-same p t s (λ i l. sym (agree i (λ q. omega arith))) in
      let entering : entered (check_field_of p s) (octet s p) ≡ entered (check_field_of p s) (octet t p) =
      sym (field_step p s (hs p)) ∙ e ∙ field_step p t (ht p) ∙ ap (λ (r : ℕ). entered r (octet t p)) before
      in
      let scaled : octet s p * 256 ≡ octet t p * 256 =
      xor_cancel_left (octet s p * 256) (octet t p * 256) (check_field_of p s)
      (shifts-same 8 (check_field_of p s ⊕ octet s p * 256) (check_field_of p s ⊕ octet t p * 256) entering)
      in
      parts (omega arith)

  behind : (k : ℕ) → check_field_of (suc p + k) s ≡ check_field_of (suc p + k) t → ⊥
  behind zero e = there (rw add-zero at e)
  behind (suc k) e =
      let n : ℕ = suc p + k in
      let same : octet t n ≡ octet s n = sym (agree n (λ q. omega arith)) in
      let stepped : check_field_of (suc n) s ≡ check_field_of (suc n) t = rw add-suc at e in
      let entering : entered (check_field_of n s) (octet s n) ≡ entered (check_field_of n t) (octet s n) =
      sym (field_step n s (hs n)) ∙ stepped ∙ field_step n t (ht n) ∙ ap (λ (o : ℕ). entered (check_field_of n t) o) same
      in
      behind k
      (xor_cancel_right (check_field_of n s) (check_field_of n t) (octet s n * 256)
      (shifts-same 8 (check_field_of n s ⊕ octet s n * 256) (check_field_of n t ⊕ octet s n * 256) entering))

  pub fields-part : (n : ℕ) → p < n → check_field_of n s ≡ check_field_of n t → ⊥
  fields-part n h e =
      let split : n ≡ suc p + (n - suc p) = omega arith in
      behind (n - suc p) (sym (ap (λ (k : ℕ). check_field_of k s) split) ∙ e ∙ ap (λ (k : ℕ). check_field_of k t) split)
