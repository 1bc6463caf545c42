-- Exclusive-or is associative, undoes itself, takes a bit's product apart, and with the or gives nothing only of nothing.
-- Assumes nothing.
use mathlib.Core.Path.{◌≡◌, refl, sym, ap, ap₂, ◌∙◌}
use Prim.Native.Nat.{ℕ, zero, suc, ◌+◌, ◌*◌, ◌/◌, ◌%◌, ◌≤◌, ◌<◌}
use native.Mathlib.Omega.{arith}
use native.Mathlib.Nat.{mod-lt, zero-mul}
use lib.Arith.{bin_ind, digits_mod}
use lib.Dec.{lit<}
use lib.Bits.{differ, xor_step, xor_shr, xor_self, xor_zero_r, xor_comm, bit_or, bit_and, or_add_and, and_le_l, and_le_r}
use Rattle.octets.specs.Xor.{◌⊕◌}

differ_lt : (x y : ℕ) → x < 2 → y < 2 → differ x y < 2
differ_lt zero y hx hy = hy
differ_lt (suc x) zero hx hy = hx
differ_lt (suc zero) (suc y) hx hy = omega arith
differ_lt (suc (suc x)) (suc y) hx hy = absurd (omega arith)

differ_assoc : (x y z : ℕ) → x < 2 → y < 2 → z < 2 → differ (differ x y) z ≡ differ x (differ y z)
differ_assoc zero y z hx hy hz = refl
differ_assoc (suc x) zero z hx hy hz = refl
differ_assoc (suc zero) (suc zero) zero hx hy hz = refl
differ_assoc (suc zero) (suc zero) (suc zero) hx hy hz = refl
differ_assoc (suc zero) (suc zero) (suc (suc z)) hx hy hz = absurd (omega arith)
differ_assoc (suc zero) (suc (suc y)) z hx hy hz = absurd (omega arith)
differ_assoc (suc (suc x)) (suc y) z hx hy hz = absurd (omega arith)

pub xor_half : (a b : ℕ) → (a ⊕ b) / 2 ≡ a / 2 ⊕ b / 2
xor_half a b = xor_shr a b 1

pub xor-odd : (a b : ℕ) → (a ⊕ b) % 2 ≡ differ (a % 2) (b % 2)
xor-odd a b =
    ap (λ (n : ℕ). n % 2) (xor_step a b)
    ∙ digits_mod (a / 2 ⊕ b / 2) (differ_lt (a % 2) (b % 2) (mod-lt a (lit< tt)) (mod-lt b (lit< tt)))

pub xor_assoc : (a b c : ℕ) → (a ⊕ b) ⊕ c ≡ a ⊕ (b ⊕ c)
xor_assoc =
    bin_ind (λ (a : ℕ). (b c : ℕ) → (a ⊕ b) ⊕ c ≡ a ⊕ (b ⊕ c)) (λ b c. refl)
    (λ a ih b c.
    xor_step (a ⊕ b) c
    ∙ ap₂ (λ (q d : ℕ). q * 2 + d)
    (ap (λ (q : ℕ). q ⊕ c / 2) (xor_half a b) ∙ ih (b / 2) (c / 2) ∙ ap (λ (q : ℕ). a / 2 ⊕ q) (sym (xor_half b c)))
    (ap (λ (d : ℕ). differ d (c % 2)) (xor-odd a b)
    ∙ differ_assoc (a % 2) (b % 2) (c % 2) (mod-lt a (lit< tt)) (mod-lt b (lit< tt)) (mod-lt c (lit< tt))
    ∙ ap (differ (a % 2)) (sym (xor-odd b c)))
    ∙ sym (xor_step a (b ⊕ c)))

-- what was added once is gone when it is added again
pub xor_undo : (a b : ℕ) → (a ⊕ b) ⊕ b ≡ a
xor_undo a b = xor_assoc a b b ∙ ap (λ (n : ℕ). a ⊕ n) (xor_self b) ∙ xor_zero_r a

pub xor-none : (a b : ℕ) → a ⊕ b ≡ 0 → a ≡ b
xor-none a b e = sym (xor_undo a b) ∙ ap (λ (n : ℕ). n ⊕ b) e

-- (a + b) + (c + d) = (a + c) + (b + d)
pub xor-four : (a b c d : ℕ) → (a ⊕ b) ⊕ (c ⊕ d) ≡ (a ⊕ c) ⊕ (b ⊕ d)
xor-four a b c d =
    xor_assoc a b (c ⊕ d)
    ∙ ap (λ (x : ℕ). a ⊕ x) (sym (xor_assoc b c d) ∙ ap (λ (x : ℕ). x ⊕ d) (xor_comm b c) ∙ xor_assoc c b d)
    ∙ sym (xor_assoc a c (b ⊕ d))

-- a bit times a number, the bit a sum of two
pub bit_scale : (x y n : ℕ) → x < 2 → y < 2 → differ x y * n ≡ x * n ⊕ y * n
bit_scale zero y n hx hy = ap (λ (k : ℕ). k ⊕ y * n) (sym (zero-mul n))
bit_scale (suc x) zero n hx hy = sym (ap (λ (k : ℕ). suc x * n ⊕ k) (zero-mul n) ∙ xor_zero_r (suc x * n))
bit_scale (suc zero) (suc zero) n hx hy = zero-mul n ∙ sym (xor_self (1 * n))
bit_scale (suc zero) (suc (suc y)) n hx hy = absurd (omega arith)
bit_scale (suc (suc x)) (suc y) n hx hy = absurd (omega arith)

pub or-none : (a b : ℕ) → bit_or a b ≡ 0 → (a ≡ 0) × (b ≡ 0)
or-none a b e =
    let s : bit_or a b + bit_and a b ≡ a + b = or_add_and a b in
    let l : bit_and a b ≤ a = and_le_l a b in
    let r : bit_and a b ≤ b = and_le_r a b in
    (omega arith, omega arith)
