-- A product whose reduction is put off: what falls out of a block is kept in a second one, and brought back when all bits are done.
-- Assumes nothing.
use mathlib.Core.Path.{◌≡◌, refl, sym, ap, ap₂, ◌∙◌}
use Prim.Native.Nat.{ℕ, zero, suc, ◌+◌, ◌-◌, ◌*◌, ◌/◌, ◌%◌, ◌^◌, ◌≤◌, ◌<◌}
use native.Mathlib.Omega.{arith}
use native.Mathlib.Nat.{mod-lt, mul-one, zero-mul, zero-add, suc-add, add-zero, add_comm, mul_assoc, mul-mod_left, pow-succ', div-add-mod'}
use native.Mathlib.Numerals.{add-one}
use lib.Bits.{xor_zero_l, xor_zero_r, xor_comm, xor_lt, xor_mod, xor_shifted, xor_block}
use lib.Dec.{lit<}
use lib.Pow.{pow-add, pow_pos, shr_lt, high, low, field, mod-mod-pow}
use Rattle.octets.specs.Xor.{◌⊕◌}
use Rattle.octets.proofs.XorLaws.{xor_assoc, xor-four}
use Rattle.ghash.specs.Product.{R, next_v, product_rounds, ◌•◌}
use Rattle.ghash.specs.Table.{nexts}
use Rattle.ghash.proofs.Linear.{next_even, nexts-xor, horner_by, rounds-low, rounds-four}

-- nothing falls out of a multiple
nexts-shifted : (k q : ℕ) → nexts k (q * 2 ^ k) ≡ q
unfolding nexts
nexts-shifted zero q = mul-one q
nexts-shifted (suc k) q =
    ap next_v (ap (nexts k) (ap (λ (p : ℕ). q * p) (pow-succ' 2 k) ∙ sym (mul_assoc q 2 (2 ^ k))) ∙ nexts-shifted k (q * 2)) ∙ next_even q

nexts-add : (j k v : ℕ) → nexts j (nexts k v) ≡ nexts (j + k) v
unfolding nexts
nexts-add zero k v = ap (λ (n : ℕ). nexts n v) (sym (zero-add k))
nexts-add (suc j) k v = ap next_v (nexts-add j k v) ∙ ap (λ (n : ℕ). nexts n v) (sym (suc-add j k))

nexts_split : (k z : ℕ) → nexts k z ≡ z / 2 ^ k ⊕ nexts k (z % 2 ^ k)
nexts_split k z =
    ap (nexts k) (sym (xor_shifted (z / 2 ^ k) k (z % 2 ^ k) (mod-lt z (pow_pos k)) ∙ div-add-mod' z (2 ^ k)))
    ∙ nexts-xor k (z / 2 ^ k * 2 ^ k) (z % 2 ^ k)
    ∙ ap (λ (n : ℕ). n ⊕ nexts k (z % 2 ^ k)) (nexts-shifted k (z / 2 ^ k))

-- k places down, where the k lowest bits of the second block w are 0: what falls out of v enters w at its top, j places up
nexts-zero : (k : ℕ) → nexts k 0 ≡ 0
nexts-zero k = ap (nexts k) (sym (zero-mul (2 ^ k))) ∙ nexts-shifted k 0

whole : (k w : ℕ) → w % 2 ^ k ≡ 0 → nexts k w ≡ w / 2 ^ k
whole k w e = nexts_split k w ∙ ap (λ (n : ℕ). w / 2 ^ k ⊕ n) (ap (nexts k) e ∙ nexts-zero k) ∙ xor_zero_r (w / 2 ^ k)

fallen : (k j n : ℕ) → k + j ≡ 128 → nexts k n ≡ nexts 128 (n * 2 ^ j)
fallen k j n e = ap (nexts k) (sym (nexts-shifted j n)) ∙ nexts-add k j (n * 2 ^ j) ∙ ap (λ (i : ℕ). nexts i (n * 2 ^ j)) e

nexts_swap : (j k v : ℕ) → nexts j (nexts k v) ≡ nexts k (nexts j v)
nexts_swap j k v = nexts-add j k v ∙ ap (λ (i : ℕ). nexts i v) (add_comm j k) ∙ sym (nexts-add k j v)

moved : (k j v w : ℕ) → k + j ≡ 128 → w % 2 ^ k ≡ 0 → nexts k (v ⊕ nexts 128 w) ≡ v / 2 ^ k ⊕ nexts 128 (w / 2 ^ k ⊕ v % 2 ^ k * 2 ^ j)
moved k j v w s e =
    let out : ℕ = v % 2 ^ k * 2 ^ j in
    let down : ℕ = v / 2 ^ k in
    let kept : ℕ = w / 2 ^ k in
    nexts-xor k v (nexts 128 w)
    ∙ ap₂ ◌⊕◌ (nexts_split k v ∙ ap (λ (n : ℕ). down ⊕ n) (fallen k j (v % 2 ^ k) s)) (nexts_swap k 128 w ∙ ap (nexts 128) (whole k w e))
    ∙ xor_assoc down (nexts 128 out) (nexts 128 kept)
    ∙ ap (λ (n : ℕ). down ⊕ n) (xor_comm (nexts 128 out) (nexts 128 kept) ∙ sym (nexts-xor 128 kept out))

-- 64 places down: the high half moves to the low one, and the low one falls out
half_out : (p q : ℕ) → q < 2 ^ 64 → nexts 64 (p * 2 ^ 64 + q) ≡ p ⊕ nexts 64 q
half_out p q l =
    nexts_split 64 (p * 2 ^ 64 + q) ∙ ap₂ (λ (a b : ℕ). a ⊕ nexts 64 b) (high p 64 l) (low p 64 l)

entry-out : (p q : ℕ) → q < 2 ^ 64 → nexts 64 (p * 2 ^ 64 + q) ≡ p ⊕ nexts 128 (q * 2 ^ 64)
entry-out p q l =
    half_out p q l ∙ ap (λ (n : ℕ). p ⊕ n) (ap (nexts 64) (sym (nexts-shifted 64 q)) ∙ nexts-add 64 64 (q * 2 ^ 64))

-- four bits more of each half, n of x and m of y: the entry e of the first, and that of the second in its halves p and q
module _ (k x y h n m e p q v w : ℕ) (en : n ≡ x / 2 ^ k % 16) (em : m ≡ y / 2 ^ k % 16) (ee : e ≡ product_rounds 4 n 0 h)
    (el : p * 2 ^ 64 + q ≡ product_rounds 4 m 0 h) (hq : q < 2 ^ 64) where
  pub halves_more : w % 16 ≡ 0 → v ⊕ nexts 128 w ≡ product_rounds k x 0 h ⊕ nexts 64 (product_rounds k y 0 h)
      → (e ⊕ v / 16 ⊕ p) ⊕ nexts 128 (w / 16 ⊕ v % 16 * 2 ^ 124 ⊕ q * 2 ^ 64)
      ≡ product_rounds (k + 4) x 0 h ⊕ nexts 64 (product_rounds (k + 4) y 0 h)
  halves_more z inv =
      let first : ℕ = product_rounds k x 0 h in
      let second : ℕ = product_rounds k y 0 h in
      let kept : ℕ = w / 16 ⊕ v % 16 * 2 ^ 124 in
      let low-entry : ℕ = p * 2 ^ 64 + q in
      ap (λ (a : ℕ). (e ⊕ v / 16 ⊕ p) ⊕ a) (nexts-xor 128 kept (q * 2 ^ 64))
      ∙ xor-four (e ⊕ v / 16) p (nexts 128 kept) (nexts 128 (q * 2 ^ 64))
      ∙ ap₂ ◌⊕◌
      (xor_assoc e (v / 16) (nexts 128 kept)
      ∙ ap (λ (a : ℕ). e ⊕ a) (sym (moved 4 124 v w refl z) ∙ ap (nexts 4) inv ∙ nexts-xor 4 first (nexts 64 second))
      ∙ sym (xor_assoc e (nexts 4 first) (nexts 4 (nexts 64 second))))
      (sym (entry-out p q hq))
      ∙ xor_assoc (e ⊕ nexts 4 first) (nexts 4 (nexts 64 second)) (nexts 64 low-entry)
      ∙ ap₂ ◌⊕◌ (rounds-four k x h n e (nexts 4 first) first (e ⊕ nexts 4 first) refl en ee refl refl)
      (ap (λ (a : ℕ). a ⊕ nexts 64 low-entry) (nexts-add 4 64 second ∙ sym (nexts-add 64 4 second))
      ∙ xor_comm (nexts 64 (nexts 4 second)) (nexts 64 low-entry)
      ∙ sym (nexts-xor 64 low-entry (nexts 4 second))
      ∙ ap (nexts 64) (rounds-four k y h m low-entry (nexts 4 second) second (low-entry ⊕ nexts 4 second) refl em el refl refl))

-- the two blocks, as the code makes them: v from s and mv, w from mw
pub high_made : (v e p mv s r : ℕ) → mv ≡ v / 16 ⊕ 0 → s ≡ e ⊕ mv → r ≡ s ⊕ (0 + p) → r ≡ e ⊕ v / 16 ⊕ p
high_made v e p mv s r ev es er = er ∙ ap₂ ◌⊕◌ (es ∙ ap (λ (n : ℕ). e ⊕ n) (ev ∙ xor_zero_r (v / 16))) (zero-add p)

pub low_made : (hi lo w q mw t r : ℕ) → mw ≡ w / 16 ⊕ lo % 16 * 2 ^ 124 → t ≡ q * 2 ^ 64 → r ≡ mw ⊕ t
    → r ≡ w / 16 ⊕ (hi * 2 ^ 64 + lo) % 16 * 2 ^ 124 ⊕ q * 2 ^ 64
low_made hi lo w q mw t r ew et er =
    let m : lo % 16 ≡ (hi * 2 ^ 64 + lo) % 16 = omega arith in
    er ∙ ap₂ ◌⊕◌ (ew ∙ ap (λ (n : ℕ). w / 16 ⊕ n * 2 ^ 124) m) et

-- the second block's low bits, as many as are left to do, are 0
multiple : (a i j : ℕ) → j ≤ i → a * 2 ^ i % 2 ^ j ≡ 0
multiple a i j l =
    let e : i ≡ i - j + j = omega arith in
    ap (λ (n : ℕ). a * 2 ^ n % 2 ^ j) e
    ∙ ap (λ (n : ℕ). n % 2 ^ j) (ap (λ (n : ℕ). a * n) (pow-add 2 (i - j) j) ∙ sym (mul_assoc a (2 ^ (i - j)) (2 ^ j)))
    ∙ mul-mod_left (a * 2 ^ (i - j)) (2 ^ j)

pub zeros-left : (k w : ℕ) → k ≤ 60 → w % 2 ^ (64 - k) ≡ 0 → w % 16 ≡ 0
zeros-left k w l e =
    let f : 64 - k ≡ 60 - k + 4 = omega arith in
    sym (mod-mod-pow w (60 - k) 4) ∙ ap (λ (n : ℕ). w % 2 ^ n % 16) (sym f) ∙ ap (λ (n : ℕ). n % 16) e

pub zeros_fewer : (k v w q : ℕ) → k ≤ 60 → w % 2 ^ (64 - k) ≡ 0 → (w / 16 ⊕ v % 16 * 2 ^ 124 ⊕ q * 2 ^ 64) % 2 ^ (64 - (k + 4)) ≡ 0
zeros_fewer k v w q l e =
    let j : ℕ = 60 - k in
    let f : 64 - k ≡ j + 4 = omega arith in
    let g : 64 - (k + 4) ≡ j = omega arith in
    ap (λ (n : ℕ). (w / 16 ⊕ v % 16 * 2 ^ 124 ⊕ q * 2 ^ 64) % 2 ^ n) g
    ∙ xor_mod (w / 16 ⊕ v % 16 * 2 ^ 124) (q * 2 ^ 64) j
    ∙ ap₂ ◌⊕◌
    (xor_mod (w / 16) (v % 16 * 2 ^ 124) j
    ∙ ap₂ ◌⊕◌ (sym (field w j 4) ∙ ap (λ (n : ℕ). w % 2 ^ n / 16) (sym f) ∙ ap (λ (n : ℕ). n / 16) e)
    (multiple (v % 16) 124 j (omega arith)))
    (multiple q 64 j (omega arith))

-- the low 32 bits of each half, and above them, by themselves, the high ones: together all 64
pub halves_joined : (x y h v w vs ws : ℕ) → w % 2 ^ 32 ≡ 0 → v ⊕ nexts 128 w ≡ product_rounds 32 x 0 h ⊕ nexts 64 (product_rounds 32 y 0 h)
    → vs ⊕ nexts 128 ws ≡ product_rounds 32 (x / 2 ^ 32) 0 h ⊕ nexts 64 (product_rounds 32 (y / 2 ^ 32) 0 h)
    → (vs ⊕ v / 2 ^ 32) ⊕ nexts 128 (ws ⊕ (w / 2 ^ 32 ⊕ v % 2 ^ 32 * 2 ^ 96)) ≡ product_rounds 64 x 0 h ⊕ nexts 64 (product_rounds 64 y 0 h)
halves_joined x y h v w vs ws e lower upper =
    let first : ℕ = product_rounds 32 x 0 h in
    let second : ℕ = product_rounds 32 y 0 h in
    let third : ℕ = product_rounds 32 (x / 2 ^ 32) 0 h in
    let fourth : ℕ = product_rounds 32 (y / 2 ^ 32) 0 h in
    let kept : ℕ = w / 2 ^ 32 ⊕ v % 2 ^ 32 * 2 ^ 96 in
    ap (λ (n : ℕ). (vs ⊕ v / 2 ^ 32) ⊕ n) (nexts-xor 128 ws kept)
    ∙ xor-four vs (v / 2 ^ 32) (nexts 128 ws) (nexts 128 kept)
    ∙ ap₂ ◌⊕◌ upper
    (sym (moved 32 96 v w refl e)
    ∙ ap (nexts 32) lower
    ∙ nexts-xor 32 first (nexts 64 second)
    ∙ ap (λ (n : ℕ). nexts 32 first ⊕ n) (nexts_swap 32 64 second))
    ∙ xor-four third (nexts 64 fourth) (nexts 32 first) (nexts 64 (nexts 32 second))
    ∙ ap₂ ◌⊕◌ (sym (horner_by 32 32 x h)) (sym (nexts-xor 64 fourth (nexts 32 second)) ∙ ap (nexts 64) (sym (horner_by 32 32 y h)))

-- both halves, all their bits done
pub halves_all : (hi lo h v w : ℕ) → lo < 2 ^ 64 → v ⊕ nexts 128 w ≡ product_rounds 64 hi 0 h ⊕ nexts 64 (product_rounds 64 lo 0 h)
    → v ⊕ nexts 64 (nexts 64 w) ≡ (hi * 2 ^ 64 + lo) • h
unfolding ◌•◌
halves_all hi lo h v w l e =
    let x : ℕ = hi * 2 ^ 64 + lo in
    ap (λ (n : ℕ). v ⊕ n) (nexts-add 64 64 w)
    ∙ e
    ∙ ap₂ (λ (a b : ℕ). product_rounds 64 a 0 h ⊕ nexts 64 b) (sym (high hi 64 l))
    (ap (λ (n : ℕ). product_rounds 64 n 0 h) (sym (low hi 64 l)) ∙ rounds-low 64 64 x 0 h (omega arith))
    ∙ sym (horner_by 64 64 x h)

-- n times R's first octet, 11100001, without carries
abbrev spread : ℕ → ℕ
spread n = n * 128 ⊕ n * 64 ⊕ n * 32 ⊕ n

scaled : (k a b : ℕ) → a * 2 ^ k ⊕ b * 2 ^ k ≡ (a ⊕ b) * 2 ^ k
scaled k a b =
    ap₂ ◌⊕◌ (sym (add-zero (a * 2 ^ k))) (sym (add-zero (b * 2 ^ k)))
    ∙ xor_block k a b 0 0 (pow_pos k) (pow_pos k)
    ∙ add-zero ((a ⊕ b) * 2 ^ k)

spread_xor : (a b : ℕ) → spread a ⊕ spread b ≡ spread (a ⊕ b)
spread_xor a b =
    xor-four (a * 128 ⊕ a * 64 ⊕ a * 32) a (b * 128 ⊕ b * 64 ⊕ b * 32) b
    ∙ ap (λ (n : ℕ). n ⊕ (a ⊕ b))
    (xor-four (a * 128 ⊕ a * 64) (a * 32) (b * 128 ⊕ b * 64) (b * 32)
    ∙ ap₂ ◌⊕◌ (xor-four (a * 128) (a * 64) (b * 128) (b * 64) ∙ ap₂ ◌⊕◌ (scaled 7 a b) (scaled 6 a b)) (scaled 5 a b))

spread_scaled : (k n : ℕ) → n * 128 * 2 ^ k ⊕ n * 64 * 2 ^ k ⊕ n * 32 * 2 ^ k ⊕ n * 2 ^ k ≡ spread n * 2 ^ k
spread_scaled k n =
    ap (λ (a : ℕ). a ⊕ n * 2 ^ k)
    (ap (λ (a : ℕ). a ⊕ n * 32 * 2 ^ k) (scaled k (n * 128) (n * 64)) ∙ scaled k (n * 128 ⊕ n * 64) (n * 32))
    ∙ scaled k (n * 128 ⊕ n * 64 ⊕ n * 32) n

spread_double : (q : ℕ) → spread (q * 2) ≡ spread q * 2
spread_double q =
    let a : q * 2 * 128 ≡ q * 128 * 2 = omega arith in
    let b : q * 2 * 64 ≡ q * 64 * 2 = omega arith in
    let c : q * 2 * 32 ≡ q * 32 * 2 = omega arith in
    ap₂ (λ (x y : ℕ). x ⊕ y ⊕ q * 2 * 32 ⊕ q * 2) a b ∙ ap (λ (x : ℕ). q * 128 * 2 ⊕ q * 64 * 2 ⊕ x ⊕ q * 2) c ∙ spread_scaled 1 q

spread_bit : (b : ℕ) → b < 2 → spread b ≡ b * 0b11100001
spread_bit zero h = refl
spread_bit (suc zero) h = refl
spread_bit (suc (suc b)) h = absurd (omega arith)

-- what falls out comes back as its product with R
R_down : (m s b : ℕ) → s + m ≡ 120 → nexts m (b * R) ≡ b * 0b11100001 * 2 ^ s
R_down m s b e =
    ap (λ (n : ℕ). nexts m (b * (0b11100001 * 2 ^ n))) (sym e)
    ∙ ap (nexts m)
    (ap (λ (n : ℕ). b * (0b11100001 * n)) (pow-add 2 s m)
    ∙ sym (mul_assoc b 0b11100001 (2 ^ s * 2 ^ m))
    ∙ sym (mul_assoc (b * 0b11100001) (2 ^ s) (2 ^ m)))
    ∙ nexts-shifted m (b * 0b11100001 * 2 ^ s)

out_back : (m s n : ℕ) → s + m ≡ 121 → n < 2 ^ m → nexts m n ≡ spread n * 2 ^ s
unfolding nexts next_v
out_back zero s n e l =
    let z : n ≡ 0 = omega arith in
    z ∙ sym (ap (λ (k : ℕ). spread k * 2 ^ s) z ∙ zero-mul (2 ^ s))
out_back (suc m) s n e l =
    let half : n / 2 < 2 ^ m = shr_lt m 1 (rw add-one l) in
    let up : s + 1 + m ≡ 121 = omega arith in
    let left : s + m ≡ 120 = omega arith in
    let odd : n % 2 < 2 = mod-lt n (lit< tt) in
    ap (λ (k : ℕ). nexts k n) (sym (add-one m))
    ∙ sym (nexts-add m 1 n)
    ∙ nexts-xor m (n / 2) (n % 2 * R)
    ∙ ap₂ ◌⊕◌
    (out_back m (s + 1) (n / 2) up half
    ∙ ap (λ (k : ℕ). spread (n / 2) * k) (ap (λ (k : ℕ). 2 ^ k) (add-one s) ∙ pow-succ' 2 s)
    ∙ sym (mul_assoc (spread (n / 2)) 2 (2 ^ s)))
    (R_down m s (n % 2) left)
    ∙ scaled s (spread (n / 2) * 2) (n % 2 * 0b11100001)
    ∙ ap (λ (k : ℕ). k * 2 ^ s)
    (ap₂ ◌⊕◌ (sym (spread_double (n / 2))) (sym (spread_bit (n % 2) odd))
    ∙ spread_xor (n / 2 * 2) (n % 2)
    ∙ ap spread (xor_shifted (n / 2) 1 (n % 2) odd ∙ div-add-mod' n 2))

-- 64 places down, as the code has it
pub half_next : (hi lo : ℕ) → hi < 2 ^ 64 → lo < 2 ^ 64
    → (lo ⊕ lo / 2 ⊕ lo / 4 ⊕ lo / 128) * 2 ^ 64
    + (hi ⊕ (lo % 2 * 0x8000_0000_0000_0000 ⊕ lo % 4 * 0x4000_0000_0000_0000 ⊕ lo % 128 * 0x0200_0000_0000_0000))
    ≡ nexts 64 (hi * 2 ^ 64 + lo)
half_next hi lo hh hl =
    let a : lo * 128 * 2 ^ 57 ≡ lo * 2 ^ 64 + 0 = omega arith in
    let b : lo * 64 * 2 ^ 57 ≡ lo / 2 * 2 ^ 64 + lo % 2 * 0x8000_0000_0000_0000 = omega arith in
    let c : lo * 32 * 2 ^ 57 ≡ lo / 4 * 2 ^ 64 + lo % 4 * 0x4000_0000_0000_0000 = omega arith in
    let d : lo * 2 ^ 57 ≡ lo / 128 * 2 ^ 64 + lo % 128 * 0x0200_0000_0000_0000 = omega arith in
    let two : ℕ = lo % 2 * 0x8000_0000_0000_0000 in
    let four : ℕ = lo % 4 * 0x4000_0000_0000_0000 in
    let last : ℕ = lo % 128 * 0x0200_0000_0000_0000 in
    let two-lt : two < 2 ^ 64 = omega arith in
    let four-lt : four < 2 ^ 64 = omega arith in
    let last-lt : last < 2 ^ 64 = omega arith in
    let pair_lt : two ⊕ four < 2 ^ 64 = xor_lt 64 two four two-lt four-lt in
    let back-lt : two ⊕ four ⊕ last < 2 ^ 64 = xor_lt 64 (two ⊕ four) last pair_lt last-lt in
    sym
    (half_out hi lo hl
    ∙ ap (λ (n : ℕ). hi ⊕ n)
    (out_back 64 57 lo refl hl
    ∙ sym (spread_scaled 57 lo)
    ∙ ap₂ (λ (x y : ℕ). x ⊕ y) (ap₂ ◌⊕◌ (ap₂ ◌⊕◌ a b ∙ xor_block 64 lo (lo / 2) 0 two (lit< tt) two-lt) c ∙ xor_block 64 (lo ⊕ lo / 2) (lo / 4) two four two-lt four-lt)
    d
    ∙ xor_block 64 (lo ⊕ lo / 2 ⊕ lo / 4) (lo / 128) (two ⊕ four) last pair_lt last-lt)
    ∙ ap (λ (n : ℕ). n ⊕ ((lo ⊕ lo / 2 ⊕ lo / 4 ⊕ lo / 128) * 2 ^ 64 + (two ⊕ four ⊕ last))) (sym (zero-add hi))
    ∙ xor_block 64 0 (lo ⊕ lo / 2 ⊕ lo / 4 ⊕ lo / 128) hi (two ⊕ four ⊕ last) hh back-lt
    ∙ ap (λ (n : ℕ). n * 2 ^ 64 + (hi ⊕ (two ⊕ four ⊕ last))) (xor_zero_l (lo ⊕ lo / 2 ⊕ lo / 4 ⊕ lo / 128)))

-- s places down, as the code has it: the bits of `top` enter at the top, u places up in the high half
down_by : (s u top hi lower z : ℕ) → hi / 2 ^ s < 2 ^ u → lower < 2 ^ 64 → z / 2 ^ s ≡ hi / 2 ^ s * 2 ^ 64 + lower
    → (hi / 2 ^ s + top * 2 ^ u) * 2 ^ 64 + lower ≡ z / 2 ^ s ⊕ top * 2 ^ (u + 64)
down_by s u top hi lower z h l e =
    let high : ℕ = hi / 2 ^ s in
    let f : top * 2 ^ u + high ≡ high + top * 2 ^ u = add_comm (top * 2 ^ u) high in
    sym
    (ap₂ ◌⊕◌ e
    (ap (λ (n : ℕ). top * n) (pow-add 2 u 64) ∙ sym (mul_assoc top (2 ^ u) (2 ^ 64)) ∙ sym (add-zero (top * 2 ^ u * 2 ^ 64)))
    ∙ xor_block 64 high (top * 2 ^ u) lower 0 l (lit< tt)
    ∙ ap₂ (λ (a b : ℕ). a * 2 ^ 64 + b) (xor_comm high (top * 2 ^ u) ∙ xor_shifted top u high h ∙ f) (xor_zero_r lower))

-- four places, and 32
down : (hi lo : ℕ) → (hi * 2 ^ 64 + lo) / 16 ≡ hi / 16 * 2 ^ 64 + (lo / 16 + hi % 16 * 0x1000_0000_0000_0000)
down hi lo = omega arith

far_down : (hi lo : ℕ) → (hi * 2 ^ 64 + lo) / 2 ^ 32 ≡ hi / 2 ^ 32 * 2 ^ 64 + (lo / 2 ^ 32 + hi % 2 ^ 32 * 2 ^ 32)
far_down hi lo = omega arith

pub far_lower_lt : (hi lo : ℕ) → lo < 2 ^ 64 → lo / 2 ^ 32 + hi % 2 ^ 32 * 2 ^ 32 < 2 ^ 64
far_lower_lt hi lo l = omega arith

pub far_down_halves : (top hi lo : ℕ) → hi < 2 ^ 64 → lo < 2 ^ 64
    → (hi / 2 ^ 32 + top * 2 ^ 32) * 2 ^ 64 + (lo / 2 ^ 32 + hi % 2 ^ 32 * 2 ^ 32) ≡ (hi * 2 ^ 64 + lo) / 2 ^ 32 ⊕ top * 2 ^ 96
far_down_halves top hi lo hh hl =
    down_by 32 32 top hi (lo / 2 ^ 32 + hi % 2 ^ 32 * 2 ^ 32) (hi * 2 ^ 64 + lo) (omega arith) (far_lower_lt hi lo hl) (far_down hi lo)

pub lower_lt : (hi lo : ℕ) → lo < 2 ^ 64 → lo / 16 + hi % 16 * 0x1000_0000_0000_0000 < 2 ^ 64
lower_lt hi lo l = omega arith

pub down_halves : (top hi lo : ℕ) → hi < 2 ^ 64 → lo < 2 ^ 64
    → (hi / 16 + top * 0x1000_0000_0000_0000) * 2 ^ 64 + (lo / 16 + hi % 16 * 0x1000_0000_0000_0000) ≡ (hi * 2 ^ 64 + lo) / 16 ⊕ top * 2 ^ 124
down_halves top hi lo hh hl =
    down_by 4 60 top hi (lo / 16 + hi % 16 * 0x1000_0000_0000_0000) (hi * 2 ^ 64 + lo) (omega arith) (lower_lt hi lo hl) (down hi lo)
