-- Document 01, 'The image', the code of a mark: gray and ungray undo each other and keep a number's size, and raising a mark by one flips
-- the one bit of its code that the trailing zeros of the raised mark pick, so it changes one octet.
-- Assumes nothing.
use mathlib.Core.Path.{◌≡◌, refl, sym, ap, ap₂, ◌∙◌}
use mathlib.Core.Logic.{◌≢◌}
use mathlib.Core.Bool.{Bool, true, false}
use Prim.Native.Nat.{ℕ, zero, suc, ◌+◌, ◌-◌, ◌*◌, ◌/◌, ◌%◌, ◌^◌, ◌≤◌, ◌<◌}
use native.Mathlib.Decide.{dec_lt}
use native.Mathlib.Nat.{zero-add, suc-add, mul_comm, pow-suc, div-one, div-div-eq-div-mul, div-eq_of_lt, mul-mod_left}
use native.Mathlib.Omega.{arith}
use borrow.Author.Tests.{lt-ltb, le-ltb, ltb-true, ltb-false, eq-eqb, ne_eqb, eqb-true, eqb-false}
use lib.Bits.{xor_step, xor_self, xor_comm, xor_lt, xor_shr, xor_mod, xor_shifted, xor_zero_r}
use lib.Count.{count_trailing_zeros, under}
use lib.Dec.{ltb, eqb}
use lib.Pow.{pow_pos, pow-lt, ones_lt, pow-add, shl-shr}
use Rattle.octets.specs.Xor.{◌⊕◌}
use Rattle.octets.proofs.XorLaws.{xor_half, xor_assoc, xor_undo, xor-none}
use Rattle.marks.specs.Gray.{gray, decoded, ungray}

-- ---- the two undo each other

gray_half : (m : ℕ) → gray m / 2 ≡ gray (m / 2)
gray_half m = xor_half m (m / 2)

-- the mark of a mark's code is the mark
pub decoded-gray : (d m : ℕ) → m < 2 ^ d → decoded d (gray m) ≡ m
unfolding decoded
decoded-gray zero m h = omega arith
decoded-gray (suc d) m h = rw (gray_half m, decoded-gray d (m / 2) (omega arith)) (xor_undo m (m / 2))

-- the code of a code's mark is the code: half of the mark is the mark of half of the code
pub gray-decoded : (d c : ℕ) → c < 2 ^ d → gray (decoded d c) ≡ c
unfolding decoded
gray-decoded zero c h = let z : c ≡ 0 = omega arith in sym z
gray-decoded (suc d) c h =
    let half : ℕ = decoded d (c / 2) in
    let e : (c ⊕ half) / 2 ≡ half =
    xor_half c half ∙ ap (λ (x : ℕ). x ⊕ half / 2) (sym (gray-decoded d (c / 2) (omega arith))) ∙ xor_undo half (half / 2)
    in
    ap (λ (x : ℕ). (c ⊕ half) ⊕ x) e ∙ xor_undo c half

-- ---- a code is read by doubling

-- the mark of digits in two parts
decoded-add : (a b c : ℕ) → decoded (a + b) c ≡ decoded a c ⊕ decoded b (c / 2 ^ a)
unfolding decoded
decoded-add zero b c = rw (zero-add b, div-one c)
decoded-add (suc a) b c =
    let quotient : c / 2 / 2 ^ a ≡ c / 2 ^ suc a =
    div-div-eq-div-mul c 2 (2 ^ a) ∙ ap (λ (p : ℕ). c / p) (mul_comm 2 (2 ^ a) ∙ sym (pow-suc 2 a))
    in
    rw (suc-add a b, decoded-add a b (c / 2), quotient) (sym (xor_assoc c (decoded a (c / 2)) (decoded b (c / 2 ^ suc a))))

-- the mark of a code without its k last digits is the mark without them
decoded-shift : (k d c : ℕ) → decoded d (c / 2 ^ k) ≡ decoded d c / 2 ^ k
unfolding decoded
decoded-shift k zero c = sym (div-eq_of_lt (pow_pos k))
decoded-shift k (suc d) c =
    let halves : c / 2 ^ k / 2 ≡ c / 2 / 2 ^ k =
    div-div-eq-div-mul c (2 ^ k) 2 ∙ ap (λ (p : ℕ). c / p) (mul_comm (2 ^ k) 2) ∙ sym (div-div-eq-div-mul c 2 (2 ^ k))
    in
    rw (halves, decoded-shift k d (c / 2)) (sym (xor_shr c (decoded d (c / 2)) k))

-- so the mark of k digits gives that of twice as many
pub decoded_double : (k c m : ℕ) → m ≡ decoded k c → m ⊕ m / 2 ^ k ≡ decoded (k + k) c
decoded_double k c m e = rw (e, decoded-add k k c, decoded-shift k k c)

pub decoded-one : (c : ℕ) → c ≡ decoded 1 c
unfolding decoded
decoded-one c = sym (xor_zero_r c)

-- ---- both for a code of four octets

pub ungray-gray : (m : ℕ) → m < 2 ^ 32 → ungray (gray m) ≡ m
ungray-gray m h = decoded-gray 32 m h

pub gray-ungray : (c : ℕ) → c < 2 ^ 32 → gray (ungray c) ≡ c
gray-ungray c h = gray-decoded 32 c h

-- ---- and keep a number's size

-- a code has no more bits than its mark
pub gray-lt : (k m : ℕ) → m < 2 ^ k → gray m < 2 ^ k
gray-lt k m h = xor_lt k m (m / 2) h (omega arith)

-- a mark has no more bits than its code
pub decoded-lt : (k d c : ℕ) → c < 2 ^ k → decoded d c < 2 ^ k
unfolding decoded
decoded-lt k zero c h = pow_pos k
decoded-lt k (suc d) c h = xor_lt k c (decoded d (c / 2)) h (decoded-lt k d (c / 2) (omega arith))

pub ungray-lt : (k c : ℕ) → c < 2 ^ k → ungray c < 2 ^ k
ungray-lt k c h = decoded-lt k 32 c h

pub gray_below : (k m : ℕ) → gray m < 2 ^ k → m < 2 ^ k
gray_below zero m h = let e : m ≡ m / 2 = xor-none m (m / 2) (omega arith) in omega arith
gray_below (suc k) m h =
    let half : gray (m / 2) < 2 ^ k = omega (arith, gray_half m) in
    omega (arith, gray_below k (m / 2) half)

-- so a code is below a power of two if and only if its mark is
pub below_together : (k c : ℕ) → c < 2 ^ 32 → ltb (ungray c) (2 ^ k) ≡ ltb c (2 ^ k)
below_together k c h = by_test (ltb c (2 ^ k)) refl
  where
    by_test : (t : Bool) → ltb c (2 ^ k) ≡ t → ltb (ungray c) (2 ^ k) ≡ t
    by_test true e = lt-ltb (ungray c) (2 ^ k) (ungray-lt k c (ltb-true c (2 ^ k) e))
    by_test false e = le-ltb (ungray c) (2 ^ k) (not_less (dec_lt (ungray c) (2 ^ k)))
      where
        not_less : Dec (ungray c < 2 ^ k) → 2 ^ k ≤ ungray c
        not_less (yes l) = absurd (omega (arith, ltb-false c (2 ^ k) e, gray-lt k (ungray c) l, gray-ungray c h))
        not_less (no g) = omega arith

-- ---- raising a mark by one

-- the code of two marks' difference is the difference of their codes
gray-xor : (a b : ℕ) → gray (a ⊕ b) ≡ gray a ⊕ gray b
gray-xor a b =
    ap (λ (x : ℕ). (a ⊕ b) ⊕ x) (xor_half a b)
    ∙ xor_assoc a b (a / 2 ⊕ b / 2)
    ∙ ap (λ (x : ℕ). a ⊕ x)
    (sym (xor_assoc b (a / 2) (b / 2)) ∙ ap (λ (x : ℕ). x ⊕ b / 2) (xor_comm b (a / 2)) ∙ xor_assoc (a / 2) b (b / 2))
    ∙ sym (xor_assoc a (a / 2) (b ⊕ b / 2))

-- a one more, behind ones
all_ones : (t : ℕ) → (2 ^ suc t - 1) * 2 + 1 ≡ 2 ^ suc (suc t) - 1
all_ones t = omega (arith, pow_pos t)

-- a mark and the next one differ in the trailing zeros of the next, and in the bit above them
by_parity : (d m r : ℕ) → m % 2 ≡ r → (m % 2 ≡ 1 → m / 2 ⊕ (m / 2 + 1) ≡ 2 ^ suc (count_trailing_zeros d (m / 2 + 1)) - 1)
    → m ⊕ (m + 1) ≡ 2 ^ suc (under ((m + 1) % 2) (count_trailing_zeros d ((m + 1) / 2))) - 1
by_parity d m zero e upper =
    let odd : (m + 1) % 2 ≡ 1 = omega arith in
    let half : (m + 1) / 2 ≡ m / 2 = omega arith in
    xor_step m (m + 1) ∙ simp (e, odd, half, xor_self)
by_parity d m (suc zero) e upper =
    let even : (m + 1) % 2 ≡ 0 = omega arith in
    let half : (m + 1) / 2 ≡ m / 2 + 1 = omega arith in
    xor_step m (m + 1) ∙ simp (e, even, half, upper e) (all_ones (count_trailing_zeros d (m / 2 + 1)))
by_parity d m (suc (suc r)) e upper = absurd (omega arith)

differences : (d m : ℕ) → m + 1 < 2 ^ d → m ⊕ (m + 1) ≡ 2 ^ suc (count_trailing_zeros d (m + 1)) - 1
unfolding count_trailing_zeros
differences zero m h = absurd (omega arith)
differences (suc d) m h = by_parity d m (m % 2) refl (λ odd. differences d (m / 2) (omega arith))

-- the code of t + 1 ones is the highest of them
gray_ones : (t : ℕ) → gray (2 ^ suc t - 1) ≡ 2 ^ t
gray_ones t =
    let ones : 2 ^ suc t - 1 ≡ 1 * 2 ^ t + (2 ^ t - 1) = omega (arith, pow_pos t) in
    let half : (2 ^ suc t - 1) / 2 ≡ 2 ^ t - 1 = omega (arith, pow_pos t) in
    let high : 1 * 2 ^ t ≡ 2 ^ t = omega arith in
    ap₂ ◌⊕◌ (ones ∙ sym (xor_shifted 1 t (2 ^ t - 1) (ones_lt t))) half ∙ xor_undo (1 * 2 ^ t) (2 ^ t - 1) ∙ high

-- so the codes differ in the bit that the trailing zeros pick
pub gray_raised : (d m : ℕ) → m + 1 < 2 ^ d → gray (m + 1) ≡ gray m ⊕ 2 ^ count_trailing_zeros d (m + 1)
gray_raised d m h =
    let flipped : gray m ⊕ gray (m + 1) ≡ 2 ^ count_trailing_zeros d (m + 1) =
    sym (gray-xor m (m + 1)) ∙ ap gray (differences d m h) ∙ gray_ones (count_trailing_zeros d (m + 1))
    in
    sym (xor_undo (gray (m + 1)) (gray m)) ∙ ap (λ (x : ℕ). x ⊕ gray m) (xor_comm (gray (m + 1)) (gray m) ∙ flipped) ∙ xor_comm _ (gray m)

-- the bit is one of the d that the raised mark may have
pub flipped-lt : (d n : ℕ) → 0 < n → n < 2 ^ d → count_trailing_zeros d n < d
unfolding count_trailing_zeros
flipped-lt zero n pos h = absurd (omega arith)
flipped-lt (suc d) n pos h = by_digit (n % 2) refl (λ e. flipped-lt d (n / 2) (omega arith) (omega arith))
  where
    by_digit : (r : ℕ) → n % 2 ≡ r → (n % 2 ≡ 0 → count_trailing_zeros d (n / 2) < d) → under (n % 2) (count_trailing_zeros d (n / 2)) < suc d
    by_digit zero e upper = simp e (omega (arith, upper e))
    by_digit (suc r) e upper = simp e (omega arith)

-- a power of two has one octet that is not 0
power_octet : (t k : ℕ) → k ≢ t / 8 → 2 ^ t / 2 ^ (8 * k) % 256 ≡ 0
power_octet t k other = by_place (dec_lt t (8 * k))
  where
    by_place : Dec (t < 8 * k) → 2 ^ t / 2 ^ (8 * k) % 256 ≡ 0
    by_place (yes below) = ap (λ (x : ℕ). x % 256) (div-eq_of_lt (pow-lt below))
    by_place (no above) =
        let r : ℕ = t - 8 * k - 8 in
        let e : t ≡ r + 8 + 8 * k = omega arith in
        ap (λ (x : ℕ). 2 ^ x / 2 ^ (8 * k) % 256) e
        ∙ ap (λ (x : ℕ). x / 2 ^ (8 * k) % 256) (pow-add 2 (r + 8) (8 * k))
        ∙ ap (λ (x : ℕ). x % 256) (shl-shr (2 ^ (r + 8)) (8 * k) ∙ pow-add 2 r 8)
        ∙ mul-mod_left (2 ^ r) 256

-- so every octet of the code but the one with that bit stays
pub gray-octet : (d m k : ℕ) → m + 1 < 2 ^ d → k ≢ count_trailing_zeros d (m + 1) / 8
    → gray (m + 1) / 2 ^ (8 * k) % 256 ≡ gray m / 2 ^ (8 * k) % 256
gray-octet d m k h other =
    let t : ℕ = count_trailing_zeros d (m + 1) in
    let g : ℕ = gray m in
    ap (λ (x : ℕ). x / 2 ^ (8 * k) % 256) (gray_raised d m h)
    ∙ ap (λ (x : ℕ). x % 256) (xor_shr g (2 ^ t) (8 * k))
    ∙ xor_mod (g / 2 ^ (8 * k)) (2 ^ t / 2 ^ (8 * k)) 8
    ∙ ap (λ (x : ℕ). (g / 2 ^ (8 * k) % 256) ⊕ x) (power_octet t k other)
    ∙ xor_zero_r (g / 2 ^ (8 * k) % 256)

-- a code is that of a mark exactly when it stands for that mark
pub same-mark : (m c : ℕ) → m < 2 ^ 32 → c < 2 ^ 32 → eqb c (gray m) ≡ eqb m (ungray c)
same-mark m c hm hc = of (eqb c (gray m)) refl
  where
    of : (b : Bool) → eqb c (gray m) ≡ b → b ≡ eqb m (ungray c)
    of true e =
        let s : c ≡ gray m = eqb-true c (gray m) e in
        sym (eq-eqb m (ungray c) (sym (ap ungray s ∙ ungray-gray m hm)))
    of false e =
        sym (ne_eqb m (ungray c) (λ s. eqb-false c (gray m) e (sym (ap gray s ∙ gray-ungray c hc))))
