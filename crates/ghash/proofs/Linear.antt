-- The product is linear, so it can be taken four bits at a time: the four bits by a table, and the rest moved on by four next V's.
-- Assumes nothing.
use mathlib.Core.Path.{◌≡◌, refl, sym, ap, ap₂, ◌∙◌}
use mathlib.Core.List.{List}
use Prim.Native.Nat.{ℕ, zero, suc, ◌+◌, ◌-◌, ◌*◌, ◌/◌, ◌%◌, ◌^◌, ◌≤◌, ◌<◌}
use native.Mathlib.Omega.{arith}
use native.Mathlib.Nat.{mod-lt, zero-mul, one-mul, zero-add, suc-add, add_comm, div-one}
use borrow.Author.Count.{below_more}
use lib.Bits.{xor_zero_r}
use lib.Dec.{lit<}
use lib.ListN.{length, set, length-set}
use lib.Pow.{shr-shr, field, mod-mod-pow}
use lib.Seq.{get_or-set_other, get_or-set_same}
use Rattle.octets.specs.Xor.{◌⊕◌}
use Rattle.octets.proofs.XorLaws.{xor_assoc, xor_half, xor-odd, xor-four, bit_scale}
use Rattle.ghash.specs.Product.{R, next_v, product_rounds}
use Rattle.ghash.specs.Table.{nexts, entry}

next-xor : (a b : ℕ) → next_v (a ⊕ b) ≡ next_v a ⊕ next_v b
unfolding next_v
next-xor a b =
    ap₂ ◌⊕◌ (xor_half a b) (ap (λ (d : ℕ). d * R) (xor-odd a b) ∙ bit_scale (a % 2) (b % 2) R (mod-lt a (lit< tt)) (mod-lt b (lit< tt)))
    ∙ xor-four (a / 2) (b / 2) (a % 2 * R) (b % 2 * R)

next-zero : next_v 0 ≡ 0
unfolding next_v
next-zero = refl

-- a bit goes through next_v
next_bit : (b v : ℕ) → b < 2 → next_v (b * v) ≡ b * next_v v
next_bit zero v h = ap next_v (zero-mul v) ∙ next-zero ∙ sym (zero-mul (next_v v))
next_bit (suc zero) v h = ap next_v (one-mul v) ∙ sym (one-mul (next_v v))
next_bit (suc (suc b)) v h = absurd (omega arith)

-- Z only adds
rounds-xor : (k x z w v : ℕ) → product_rounds k x (z ⊕ w) v ≡ z ⊕ product_rounds k x w v
unfolding product_rounds
rounds-xor zero x z w v = refl
rounds-xor (suc k) x z w v =
    ap (λ (n : ℕ). product_rounds k x n (next_v v)) (xor_assoc z w (x / 2 ^ k % 2 * v)) ∙ rounds-xor k x z (w ⊕ x / 2 ^ k % 2 * v) (next_v v)

rounds-from : (k x z v : ℕ) → product_rounds k x z v ≡ z ⊕ product_rounds k x 0 v
rounds-from k x z v = ap (λ (n : ℕ). product_rounds k x n v) (sym (xor_zero_r z)) ∙ rounds-xor k x z 0 v

-- next_v goes through the rounds
rounds-next : (k x z v : ℕ) → product_rounds k x (next_v z) (next_v v) ≡ next_v (product_rounds k x z v)
unfolding product_rounds
rounds-next zero x z v = refl
rounds-next (suc k) x z v =
    ap (λ (n : ℕ). product_rounds k x n (next_v (next_v v)))
    (ap (λ (n : ℕ). next_v z ⊕ n) (sym (next_bit (x / 2 ^ k % 2) v (mod-lt (x / 2 ^ k) (lit< tt)))) ∙ sym (next-xor z (x / 2 ^ k % 2 * v)))
    ∙ rounds-next k x (z ⊕ x / 2 ^ k % 2 * v) (next_v v)

-- Horner's rule: the highest of k + 1 bits, and the others one place on
horner : (k x v : ℕ) → product_rounds (suc k) x 0 v ≡ x / 2 ^ k % 2 * v ⊕ next_v (product_rounds k x 0 v)
unfolding product_rounds
horner k x v =
    rounds-from k x (x / 2 ^ k % 2 * v) (next_v v)
    ∙ ap (λ (n : ℕ). x / 2 ^ k % 2 * v ⊕ n) (ap (λ (n : ℕ). product_rounds k x n (next_v v)) (sym next-zero) ∙ rounds-next k x 0 v)

-- the same for j bits at a time
pub horner_by : (j k x v : ℕ) → product_rounds (j + k) x 0 v ≡ product_rounds j (x / 2 ^ k) 0 v ⊕ nexts j (product_rounds k x 0 v)
unfolding nexts product_rounds
horner_by zero k x v = ap (λ (n : ℕ). product_rounds n x 0 v) (zero-add k)
horner_by (suc j) k x v =
    let low : ℕ = nexts j (product_rounds k x 0 v) in
    ap (λ (n : ℕ). product_rounds n x 0 v) (suc-add j k)
    ∙ horner (j + k) x v
    ∙ ap₂ (λ (d n : ℕ). d % 2 * v ⊕ next_v n) (ap (λ (e : ℕ). x / 2 ^ e) (add_comm j k) ∙ sym (shr-shr x k j)) (horner_by j k x v)
    ∙ ap (λ (n : ℕ). x / 2 ^ k / 2 ^ j % 2 * v ⊕ n) (next-xor (product_rounds j (x / 2 ^ k) 0 v) low)
    ∙ sym (xor_assoc (x / 2 ^ k / 2 ^ j % 2 * v) (next_v (product_rounds j (x / 2 ^ k) 0 v)) (next_v low))
    ∙ ap (λ (n : ℕ). n ⊕ next_v low) (sym (horner j (x / 2 ^ k) v))

-- the j rounds look at the j low bits alone
bit-mod : (x m k : ℕ) → k < m → x % 2 ^ m / 2 ^ k % 2 ≡ x / 2 ^ k % 2
bit-mod x m k h =
    let e₁ : m ≡ m - k + k = omega arith in
    let e₂ : m - k ≡ m - k - 1 + 1 = omega arith in
    ap (λ (e : ℕ). x % 2 ^ e / 2 ^ k % 2) e₁
    ∙ ap (λ (n : ℕ). n % 2) (field x (m - k) k)
    ∙ ap (λ (e : ℕ). x / 2 ^ k % 2 ^ e % 2) e₂
    ∙ mod-mod-pow (x / 2 ^ k) (m - k - 1) 1

pub rounds-low : (j m x z v : ℕ) → j ≤ m → product_rounds j (x % 2 ^ m) z v ≡ product_rounds j x z v
unfolding product_rounds
rounds-low zero m x z v h = refl
rounds-low (suc j) m x z v h =
    ap (λ (b : ℕ). product_rounds j (x % 2 ^ m) (z ⊕ b * v) (next_v v)) (bit-mod x m j h)
    ∙ rounds-low j m x (z ⊕ x / 2 ^ j % 2 * v) (next_v v) (omega arith)

-- the next V of an even number
pub next_even : (q : ℕ) → next_v (q * 2) ≡ q
unfolding next_v
next_even q =
    let e : q * 2 / 2 ≡ q = omega arith in
    let o : q * 2 % 2 ≡ 0 = omega arith in
    ap₂ (λ (a b : ℕ). a ⊕ b * R) e o ∙ xor_zero_r q

pub nexts-xor : (n a b : ℕ) → nexts n (a ⊕ b) ≡ nexts n a ⊕ nexts n b
unfolding nexts
nexts-xor zero a b = refl
nexts-xor (suc n) a b = ap next_v (nexts-xor n a b) ∙ next-xor (nexts n a) (nexts n b)

-- four bits n more: their entry e, and four next V's of what the bits below gave
pub rounds-four : (k x v n e s z z' : ℕ) → z ≡ product_rounds k x 0 v → n ≡ x / 2 ^ k % 16 → e ≡ product_rounds 4 n 0 v → s ≡ nexts 4 z → z' ≡ e ⊕ s
    → z' ≡ product_rounds (k + 4) x 0 v
rounds-four k x v n e s z z' ez en ee es ez' =
    ez'
    ∙ ap₂ ◌⊕◌ (ee ∙ ap (λ (m : ℕ). product_rounds 4 m 0 v) en ∙ rounds-low 4 4 (x / 2 ^ k) 0 v (omega arith)) (es ∙ ap (nexts 4) ez)
    ∙ sym (horner_by 4 k x v)
    ∙ ap (λ (j : ℕ). product_rounds j x 0 v) (add_comm 4 k)

-- the last four rounds, by V and the three that follow it
pub rounds_added : (n h v₁ v₂ v₃ : ℕ) → v₁ ≡ next_v h → v₂ ≡ next_v v₁ → v₃ ≡ next_v v₂
    → (n / 8 % 2 * h ⊕ n / 4 % 2 * v₁) ⊕ (n / 2 % 2 * v₂ ⊕ n % 2 * v₃) ≡ product_rounds 4 n 0 h
unfolding product_rounds
rounds_added n h v₁ v₂ v₃ e₁ e₂ e₃ =
    let f₂ : v₂ ≡ next_v (next_v h) = e₂ ∙ ap next_v e₁ in
    let f₃ : v₃ ≡ next_v (next_v (next_v h)) = e₃ ∙ ap next_v f₂ in
    sym (xor_assoc (n / 8 % 2 * h ⊕ n / 4 % 2 * v₁) (n / 2 % 2 * v₂) (n % 2 * v₃))
    ∙ ap₂ ◌⊕◌ (ap₂ (λ (a b : ℕ). n / 8 % 2 * h ⊕ n / 4 % 2 * a ⊕ n / 2 % 2 * b) e₁ f₂) (ap₂ (λ (m a : ℕ). m % 2 * a) (sym (div-one n)) f₃)

-- one more entry of the table
module _ (t : List ℕ) (n a b h : ℕ) (l : length t ≡ 32) (hn : n < 16) where
  entry_other : (m : ℕ) → m < n → entry (set (set t (n * 2) a) (n * 2 + 1) b) m ≡ entry t m
  entry_other m hm =
      ap₂ (λ (x y : ℕ). x * 2 ^ 64 + y)
      (get_or-set_other (set t (n * 2) a) (n * 2 + 1) (m * 2) b 0 (λ e. omega arith)
      ∙ get_or-set_other t (n * 2) (m * 2) a 0 (λ e. omega arith))
      (get_or-set_other (set t (n * 2) a) (n * 2 + 1) (m * 2 + 1) b 0 (λ e. omega arith)
      ∙ get_or-set_other t (n * 2) (m * 2 + 1) a 0 (λ e. omega arith))

  entry-same : entry (set (set t (n * 2) a) (n * 2 + 1) b) n ≡ a * 2 ^ 64 + b
  entry-same =
      ap₂ (λ (x y : ℕ). x * 2 ^ 64 + y)
      (get_or-set_other (set t (n * 2) a) (n * 2 + 1) (n * 2) b 0 (λ e. omega arith) ∙ get_or-set_same t (n * 2) a 0 (omega arith))
      (get_or-set_same (set t (n * 2) a) (n * 2 + 1) b 0 (omega (arith, length-set t (n * 2) a)))

  pub entries_more : ((m : ℕ) → m < n → entry t m ≡ product_rounds 4 m 0 h) → a * 2 ^ 64 + b ≡ product_rounds 4 n 0 h
      → (m : ℕ) → m < n + 1 → entry (set (set t (n * 2) a) (n * 2 + 1) b) m ≡ product_rounds 4 m 0 h
  entries_more below e = below_more _ _ (λ m hm. entry_other m hm ∙ below m hm) (entry-same ∙ e)
