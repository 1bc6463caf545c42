-- Bits that enter the register: none, those of a sum, in two parts, and eight.
-- Assumes nothing.
use mathlib.Core.Path.{◌≡◌, sym, ap, ap₂, ◌∙◌}
use mathlib.Core.List.{List}
use Prim.Native.Nat.{ℕ, ◌+◌, ◌*◌, ◌^◌, ◌<◌}
use native.Mathlib.Omega.{arith}
use native.Mathlib.Nat.{add_comm, add-zero, mul_assoc, mul_comm}
use lib.Bits.{xor_shifted, xor_zero_r}
use lib.Dec.{lit<}
use lib.Pow.{shl_lt}
use Rattle.octets.specs.Lists.{octet}
use Rattle.octets.specs.Numbers.{number}
use Rattle.octets.specs.Xor.{◌⊕◌}
use Rattle.octets.proofs.Numbers.{number_step}
use Rattle.octets.proofs.XorLaws.{xor_assoc, xor-four}
use Rattle.check_field.specs.Polynomials.{remainder}
use Rattle.check_field.specs.Register.{shifts, entered, after_bits}
use Rattle.check_field.proofs.Sums.{xor_scaled}
use Rattle.check_field.proofs.Division.{remainder-xor, remainder-shifts, remainder_longer}
use Rattle.check_field.proofs.Shifting.{shifts-xor, shifts-zero, shifts-shifts}

-- bits that are all 0
pub after-zeros : (n r : ℕ) → after_bits n r 0 ≡ shifts n r
unfolding after_bits remainder
after-zeros n r =
    ap (λ (x : ℕ). shifts n r ⊕ x) (ap (λ (k : ℕ). remainder k 0) (sym (add-zero n)) ∙ remainder_longer n 0 0 (lit< tt)) ∙ xor_zero_r (shifts n r)

-- what the register and what the bits make, apart
pub after-apart : (n r m : ℕ) → after_bits n r m ≡ shifts n r ⊕ after_bits n 0 m
unfolding after_bits
after-apart n r m = ap (λ (x : ℕ). shifts n r ⊕ x) (sym (ap (λ (x : ℕ). x ⊕ remainder n (m * 2 ^ 16)) (shifts-zero n)))

pub after-shifted : (n k r t m : ℕ) → after_bits n (shifts k r ⊕ t) m ≡ shifts (n + k) r ⊕ after_bits n t m
unfolding after_bits
after-shifted n k r t m =
    let bits : ℕ = remainder n (m * 2 ^ 16) in
    ap (λ (x : ℕ). x ⊕ bits) (shifts-xor n (shifts k r) t ∙ ap (λ (x : ℕ). x ⊕ shifts n t) (shifts-shifts n k r))
    ∙ xor_assoc (shifts (n + k) r) (shifts n t) bits

pub after-xor : (n r t m w : ℕ) → after_bits n (r ⊕ t) (m ⊕ w) ≡ after_bits n r m ⊕ after_bits n t w
unfolding after_bits
after-xor n r t m w =
    ap₂ ◌⊕◌ (shifts-xor n r t) (ap (remainder n) (xor_scaled 16 m w) ∙ remainder-xor n (m * 2 ^ 16) (w * 2 ^ 16))
    ∙ xor-four (shifts n r) (shifts n t) (remainder n (m * 2 ^ 16)) (remainder n (w * 2 ^ 16))

-- k bits, and the j of w behind them
pub after-after : (j k r m w : ℕ) → w < 2 ^ j → after_bits j (after_bits k r m) w ≡ after_bits (j + k) r (m * 2 ^ j + w)
unfolding after_bits
after-after j k r m w h =
    let first : ℕ = m * 2 ^ 16 * 2 ^ j in
    let last : ℕ = w * 2 ^ 16 in
    let small : last < 2 ^ (16 + j) = rw (add_comm 16 j) (shl_lt j 16 h) in
    let longer : remainder j last ≡ remainder (j + k) last = rw (add_comm j k) (sym (remainder_longer k j last small)) in
    let moved : first ≡ m * 2 ^ j * 2 ^ 16 =
    mul_assoc m (2 ^ 16) (2 ^ j) ∙ ap (λ (x : ℕ). m * x) (mul_comm (2 ^ 16) (2 ^ j)) ∙ sym (mul_assoc m (2 ^ j) (2 ^ 16))
    in
    let joined : first ⊕ last ≡ (m * 2 ^ j + w) * 2 ^ 16 =
    ap (λ (x : ℕ). x ⊕ last) moved ∙ sym (xor_scaled 16 (m * 2 ^ j) w) ∙ ap (λ (x : ℕ). x * 2 ^ 16) (xor_shifted m j w h)
    in
    ap (λ (x : ℕ). x ⊕ remainder j last)
    (shifts-xor j (shifts k r) (remainder k (m * 2 ^ 16)) ∙ ap₂ ◌⊕◌ (shifts-shifts j k r) (sym (remainder-shifts j k (m * 2 ^ 16))))
    ∙ xor_assoc (shifts (j + k) r) (remainder (j + k) first) (remainder j last)
    ∙ ap (λ (x : ℕ). shifts (j + k) r ⊕ x)
    (ap (λ (x : ℕ). remainder (j + k) first ⊕ x) longer ∙ sym (remainder-xor (j + k) first last) ∙ ap (remainder (j + k)) joined)

pub entered-after : (r o : ℕ) → entered r o ≡ after_bits 8 r o
unfolding after_bits remainder
entered-after r o =
    let moved : o * 256 * 2 ^ 8 ≡ o * 2 ^ 16 = omega arith in
    shifts-xor 8 r (o * 256) ∙ ap (λ (x : ℕ). shifts 8 r ⊕ x) (sym (remainder-shifts 8 0 (o * 256)) ∙ ap (remainder 8) moved)

-- ---- octets enter a register of zeros, one by one

pub octet_entered : (n : ℕ) (s : List ℕ) (r t : ℕ) → octet s n < 256 → r ≡ after_bits (8 * n) 0 (number n s) → t ≡ entered r (octet s n)
    → t ≡ after_bits (8 * (n + 1)) 0 (number (n + 1) s)
octet_entered n s r t h e f =
    let bits : 8 + 8 * n ≡ 8 * (n + 1) = omega arith in
    f
    ∙ entered-after r (octet s n)
    ∙ ap (λ (x : ℕ). after_bits 8 x (octet s n)) e
    ∙ after-after 8 (8 * n) 0 (number n s) (octet s n) h
    ∙ ap₂ (λ (k m : ℕ). after_bits k 0 m) bits (sym (number_step n s))

pub none_entered : 0 ≡ after_bits 0 0 0
unfolding shifts
none_entered = sym (after-zeros 0 0)
