-- What the product does to the halves of a block is what the definitions do to the number.
-- Assumes nothing.
use mathlib.Core.Path.{◌≡◌, sym, ap, ap₂, ◌∙◌}
use Prim.Native.Nat.{ℕ, zero, suc, ◌+◌, ◌*◌, ◌/◌, ◌%◌, ◌^◌, ◌<◌}
use native.Mathlib.Omega.{arith}
use native.Mathlib.Nat.{mul_assoc, one-mul, zero-mul, add-zero}
use lib.Bits.{xor_block, xor_zero_r}
use lib.Dec.{lit<}
use Rattle.octets.specs.Xor.{◌⊕◌}
use Rattle.ghash.specs.Product.{R, next_v}

-- a bit times a number that fits
pub bit_times_lt : (b n m : ℕ) → b < 2 → n < m → b * n < m
bit_times_lt zero n m hb h = rw zero-mul (omega arith)
bit_times_lt (suc zero) n m hb h = rw one-mul h
bit_times_lt (suc (suc b)) n m hb h = absurd (omega arith)

pub next_halves : (hi lo : ℕ) → lo < 2 ^ 64
    → (hi / 2 ⊕ lo % 2 * 0xe100_0000_0000_0000) * 2 ^ 64 + (lo / 2 + hi % 2 * 0x8000_0000_0000_0000) ≡ next_v (hi * 2 ^ 64 + lo)
unfolding next_v
next_halves hi lo h =
    let back : ℕ = lo % 2 * 0xe100_0000_0000_0000 in
    let down : ℕ = lo / 2 + hi % 2 * 0x8000_0000_0000_0000 in
    let l : down < 2 ^ 64 = omega arith in
    let e₁ : (hi * 2 ^ 64 + lo) / 2 ≡ hi / 2 * 2 ^ 64 + down = omega arith in
    let m : (hi * 2 ^ 64 + lo) % 2 ≡ lo % 2 = omega arith in
    let e₂ : (hi * 2 ^ 64 + lo) % 2 * R ≡ back * 2 ^ 64 + 0 =
    ap (λ (x : ℕ). x * R) m ∙ sym (add-zero (back * 2 ^ 64) ∙ mul_assoc (lo % 2) 0xe100_0000_0000_0000 (2 ^ 64))
    in
    sym
    (ap₂ ◌⊕◌ e₁ e₂
    ∙ xor_block 64 (hi / 2) back down 0 l (lit< tt)
    ∙ ap (λ (x : ℕ). (hi / 2 ⊕ back) * 2 ^ 64 + x) (xor_zero_r down))
