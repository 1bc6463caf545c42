-- Shifts of the register: of a sum, within 16 bits, undone by no other, and eight of them at once.
-- Assumes nothing.
use mathlib.Core.Path.{◌≡◌, refl, sym, ap, ap₂, ◌∙◌}
use Prim.Native.Nat.{ℕ, zero, suc, ◌+◌, ◌*◌, ◌/◌, ◌%◌, ◌^◌, ◌<◌}
use native.Mathlib.Omega.{arith}
use native.Mathlib.Nat.{mod-lt, zero-add, suc-add, mul_assoc, mul-one, pow-suc, div-add-mod', div-eq_of_lt}
use lib.Bits.{xor_self, xor_block, xor_comm, xor_lt, xor_shifted, xor_zero_r}
use lib.Dec.{lit<}
use Rattle.octets.specs.Xor.{◌⊕◌}
use Rattle.octets.proofs.XorLaws.{xor_assoc, xor-none, xor-four}
use Rattle.check_field.specs.Polynomials.{coefficient, G}
use Rattle.check_field.specs.Register.{shift, shifts}
use Rattle.check_field.proofs.Sums.{scale_xor, xor_scaled}

-- ---- of a sum

shift-xor : (a b : ℕ) → shift (a ⊕ b) ≡ shift a ⊕ shift b
unfolding shift
shift-xor a b =
    ap₂ ◌⊕◌ (xor_scaled 1 a b) (scale_xor a b 15 G) ∙ xor-four (a * 2) (b * 2) (coefficient a 15 * G) (coefficient b 15 * G)

pub shifts-xor : (n a b : ℕ) → shifts n (a ⊕ b) ≡ shifts n a ⊕ shifts n b
unfolding shifts
shifts-xor zero a b = refl
shifts-xor (suc n) a b = ap shift (shifts-xor n a b) ∙ shift-xor (shifts n a) (shifts n b)

pub shifts-zero : (n : ℕ) → shifts n 0 ≡ 0
unfolding shifts shift
shifts-zero zero = refl
shifts-zero (suc n) = ap shift (shifts-zero n)

pub shifts-shifts : (n m r : ℕ) → shifts n (shifts m r) ≡ shifts (n + m) r
unfolding shifts
shifts-shifts zero m r = sym (ap (λ (k : ℕ). shifts k r) (zero-add m))
shifts-shifts (suc n) m r = ap shift (shifts-shifts n m r) ∙ sym (ap (λ (k : ℕ). shifts k r) (suc-add n m))

-- ---- within 16 bits

-- the highest bit leaves, and where it is 1 the other terms of G are added
pub shift_made : (r : ℕ) → r < 2 ^ 16 → shift r ≡ r % 2 ^ 15 * 2 ⊕ r / 2 ^ 15 * 0x1021
unfolding shift
shift_made r h =
    let q : ℕ = r / 2 ^ 15 in
    let m : ℕ = r % 2 ^ 15 in
    let one : q % 2 ≡ q = omega arith in
    let twice : r * 2 ≡ q * 2 ^ 16 + m * 2 = omega arith in
    let parts : q * G ≡ q * 2 ^ 16 + q * 0x1021 = omega arith in
    let small : m * 2 < 2 ^ 16 = omega arith in
    let back : q * 0x1021 < 2 ^ 16 = omega arith in
    ap₂ ◌⊕◌ twice (ap (λ (c : ℕ). c * G) one ∙ parts)
    ∙ xor_block 16 q q (m * 2) (q * 0x1021) small back
    ∙ ap (λ (z : ℕ). z * 2 ^ 16 + (m * 2 ⊕ q * 0x1021)) (xor_self q)
    ∙ zero-add (m * 2 ⊕ q * 0x1021)

shift-lt : (r : ℕ) → r < 2 ^ 16 → shift r < 2 ^ 16
shift-lt r h = rw (shift_made r h) (xor_lt 16 (r % 2 ^ 15 * 2) (r / 2 ^ 15 * 0x1021) (omega arith) (omega arith))

pub shifts-lt : (n r : ℕ) → r < 2 ^ 16 → shifts n r < 2 ^ 16
unfolding shifts
shifts-lt zero r h = h
shifts-lt (suc n) r h = shift-lt (shifts n r) (shifts-lt n r h)

-- ---- two registers stay different: G has the term 1, so x · r is no multiple of it

none-by : (r c : ℕ) → c < 2 → r * 2 ≡ c * G → r ≡ 0
none-by r zero h e = omega arith
none-by r (suc zero) h e = omega arith
none-by r (suc (suc c)) h e = absurd (omega arith)

shift_none : (r : ℕ) → shift r ≡ 0 → r ≡ 0
unfolding shift
shift_none r e = none-by r (coefficient r 15) (mod-lt (r / 2 ^ 15) (lit< tt)) (xor-none (r * 2) (coefficient r 15 * G) e)

pub shifts_none : (n r : ℕ) → shifts n r ≡ 0 → r ≡ 0
unfolding shifts
shifts_none zero r e = e
shifts_none (suc n) r e = shifts_none n r (shift_none (shifts n r) e)

pub shifts-same : (n a b : ℕ) → shifts n a ≡ shifts n b → a ≡ b
shifts-same n a b e =
    xor-none a b (shifts_none n (a ⊕ b) (shifts-xor n a b ∙ ap (λ (x : ℕ). x ⊕ shifts n b) e ∙ xor_self (shifts n b)))

-- ---- eight shifts at once: the low octet moves up, and the table has what becomes of the high one

shift_small : (r : ℕ) → r < 2 ^ 15 → shift r ≡ r * 2
unfolding shift
shift_small r h =
    let none : r / 2 ^ 15 ≡ 0 = div-eq_of_lt h in
    ap (λ (q : ℕ). r * 2 ⊕ q % 2 * G) none ∙ xor_zero_r (r * 2)

pub shifts-small : (n r : ℕ) → r * 2 ^ n < 2 ^ 16 → shifts n r ≡ r * 2 ^ n
unfolding shifts
shifts-small zero r h = sym (mul-one r)
shifts-small (suc n) r h =
    let e : r * 2 ^ suc n ≡ r * 2 ^ n * 2 = ap (λ (m : ℕ). r * m) (pow-suc 2 n) ∙ sym (mul_assoc r (2 ^ n) 2) in
    let l : r * 2 ^ n < 2 ^ 15 = omega arith in
    ap shift (shifts-small n r (omega arith)) ∙ shift_small (r * 2 ^ n) l ∙ sym e

pub shifts_split : (r o : ℕ) → r < 2 ^ 16 → shifts 8 (r ⊕ o * 256) ≡ r % 256 * 256 ⊕ shifts 8 ((r / 256 ⊕ o) * 256)
shifts_split r o h =
    let high : ℕ = r / 256 in
    let low : ℕ = r % 256 in
    let octet : low < 256 = mod-lt r (lit< tt) in
    let whole : low ⊕ high * 256 ≡ r = xor_comm low (high * 256) ∙ xor_shifted high 8 low octet ∙ div-add-mod' r 256 in
    let grouped : r ⊕ o * 256 ≡ low ⊕ (high ⊕ o) * 256 =
    ap (λ (x : ℕ). x ⊕ o * 256) (sym whole) ∙ xor_assoc low (high * 256) (o * 256) ∙ ap (λ (x : ℕ). low ⊕ x) (sym (xor_scaled 8 high o))
    in
    ap (shifts 8) grouped
    ∙ shifts-xor 8 low ((high ⊕ o) * 256)
    ∙ ap (λ (x : ℕ). x ⊕ shifts 8 ((high ⊕ o) * 256)) (shifts-small 8 low (omega arith))
