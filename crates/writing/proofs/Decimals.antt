-- Numbers in decimal: how the digits of a number go on, how many they are at most, and that they read back as the number.
-- Assumes nothing.
use mathlib.Core.Path.{◌≡◌, ◌∙◌, refl, ap, sym}
use mathlib.Core.List.{List, [], ◌∷◌, ◌++◌}
use Prim.Native.Nat.{ℕ, zero, suc, ◌+◌, ◌-◌, ◌*◌, ◌/◌, ◌%◌, ◌^◌, ◌≤◌, ◌<◌}
use native.Mathlib.Decide.{dec_lt}
use native.Mathlib.Nat.{div-lt_iff_lt-mul, pow-suc}
use native.Mathlib.Omega.{arith}
use borrow.Author.Tests.{lt-ltb, le-ltb}
use lib.Dec.{lit<}
use lib.ListN.{length, length-append, get_or-append}
use Rattle.octets.specs.Lists.{octet}
use Rattle.writing.specs.Text.{digits}

pub digits-none : (most n : ℕ) → most ≡ 0 → digits most n ≡ []
unfolding digits
digits-none most n e = rw e

-- a number below 10 is its digit alone
pub digits-one : (most n : ℕ) → 0 < most → n < 10 → digits most n ≡ (48 + n % 10) ∷ []
unfolding digits
digits-one zero n some small = absurd (omega arith)
digits-one (suc most) n some small = rw (lt-ltb n 10 small)

-- any other has the digits of n / 10 before its own
pub digits_more : (most n : ℕ) → 0 < most → 10 ≤ n → digits most n ≡ digits (most - 1) (n / 10) ++ ((48 + n % 10) ∷ [])
unfolding digits
digits_more zero n some large = absurd (omega arith)
digits_more (suc most) n some large =
    let e : suc most - 1 ≡ most = omega arith in
    rw (e, le-ltb n 10 large)

pub digits_longer : (most n : ℕ) → 0 < most → 10 ≤ n → length (digits most n) ≡ length (digits (most - 1) (n / 10)) + 1
digits_longer most n some large = ap length (digits_more most n some large) ∙ length-append (digits (most - 1) (n / 10)) _

-- a number below 10 ^ (k + 1) has at most k + 1 digits
pub digits_short : (k most n : ℕ) → n < 10 ^ suc k → length (digits most n) ≤ suc k
digits_short k zero n small = rw (digits-none 0 n refl) (omega arith)
digits_short k (suc most) n small = by_size k (dec_lt n 10) small (λ j s. digits_short j most (n / 10) s)
  where
    by_size : (k : ℕ) → Dec (n < 10) → n < 10 ^ suc k → ((j : ℕ) → n / 10 < 10 ^ suc j → length (digits most (n / 10)) ≤ suc j)
        → length (digits (suc most) n) ≤ suc k
    by_size k (yes alone) small shorter = rw (digits-one (suc most) n (omega arith) alone) (omega arith)
    by_size zero (no more) small shorter = absurd (omega arith)
    by_size (suc k) (no more) small shorter =
        let e : suc most - 1 ≡ most = omega arith in
        omega (
          arith,
          rw e at (digits_longer (suc most) n (omega arith) (omega arith)),
          shorter k ((div-lt_iff_lt-mul (lit< tt)).1 (rw pow-suc at small)),
        )

-- ---- the digits read back as the number

-- what digits read as, behind others that read as a number
unfoldable pub read_behind : ℕ → List ℕ → ℕ
read_behind number [] = number
read_behind number (d ∷ ds) = read_behind (number * 10 + (d - 48)) ds

abbrev pub reading : List ℕ → ℕ
reading text = read_behind 0 text

reading_last : (number : ℕ) (text : List ℕ) (d : ℕ) → read_behind number (text ++ (d ∷ [])) ≡ read_behind number text * 10 + (d - 48)
unfolding read_behind
reading_last number [] d = refl
reading_last number (x ∷ text) d = reading_last (number * 10 + (x - 48)) text d

pub digits_read : (most n : ℕ) → n < 10 ^ most → reading (digits most n) ≡ n
unfolding read_behind
digits_read zero n small = rw (digits-none 0 n refl) (omega arith)
digits_read (suc most) n small = by_size (dec_lt n 10) (digits_read most (n / 10) ((div-lt_iff_lt-mul (lit< tt)).1 (rw pow-suc at small)))
  where
    by_size : Dec (n < 10) → reading (digits most (n / 10)) ≡ n / 10 → reading (digits (suc most) n) ≡ n
    by_size (yes alone) before = rw (digits-one (suc most) n (omega arith) alone) (omega arith)
    by_size (no more) before =
        let e : suc most - 1 ≡ most = omega arith in
        ap reading (rw e at (digits_more (suc most) n (omega arith) (omega arith)))
        ∙ reading_last 0 (digits most (n / 10)) (48 + n % 10)
        ∙ rw before (omega arith)

some-digits : (text : List ℕ) → 0 < reading text → 0 < length text
unfolding read_behind
some-digits [] h = absurd (omega arith)
some-digits (d ∷ text) h = omega arith

-- and the first of them is 0 for no number but 0
pub digits_lead : (most n : ℕ) → n < 10 ^ most → 0 < n → octet (digits most n) 0 ≡ 48 → ⊥
digits_lead zero n small some e = omega arith
digits_lead (suc most) n small some e = by_size (dec_lt n 10) (λ l. digits_lead most (n / 10) front l)
  where
    front : n / 10 < 10 ^ most
    front = (div-lt_iff_lt-mul (lit< tt)).1 (rw pow-suc at small)

    by_size : Dec (n < 10) → (0 < n / 10 → octet (digits most (n / 10)) 0 ≡ 48 → ⊥) → ⊥
    by_size (yes alone) before = omega (arith, rw (digits-one (suc most) n (omega arith) alone) at e)
    by_size (no more) before =
        let k : suc most - 1 ≡ most = omega arith in
        let whole : digits (suc most) n ≡ digits most (n / 10) ++ ((48 + n % 10) ∷ []) =
        rw k at (digits_more (suc most) n (omega arith) (omega arith))
        in
        let some : 0 < length (digits most (n / 10)) =
        some-digits (digits most (n / 10)) (rw (digits_read most (n / 10) front) (omega arith))
        in
        before (omega arith)
        (sym (get_or-append (digits most (n / 10)) ((48 + n % 10) ∷ []) 0 0 some) ∙ ap (λ (l : List ℕ). octet l 0) (sym whole) ∙ e)
