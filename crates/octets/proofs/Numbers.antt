-- Laws of big-endian numbers: what `number` and `bytes` make of a list in two parts and of a number in two parts.
-- Assumes nothing.
use mathlib.Core.Path.{◌≡◌, refl, sym, ap, ap₂, ◌∙◌}
use mathlib.Core.List.{List, [], ◌∷◌, ◌++◌}
use Prim.Native.Nat.{ℕ, zero, suc, ◌+◌, ◌*◌, ◌/◌, ◌%◌, ◌^◌, ◌≤◌, ◌<◌}
use native.Mathlib.Omega.{arith}
use native.Mathlib.Numerals.{add-one}
use native.Mathlib.Nat.{add_assoc, add_comm, add-suc, add-zero, suc-add, zero-add, mul_assoc, mul_comm, mul-one, pow-suc, one-le-pow}
use native.Mathlib.Nat.{add-mul-div_right, add-mul-mod_self_right, mod-eq_of_lt, mod-lt}
use native.Mathlib.Nat.{div-add-mod', div-div-eq-div-mul, div-one, div-lt_iff_lt-mul}
use lib.Arith.{digits_div, digits_lt, digits_mod}
use lib.Dec.{lit≤, lit<}
use lib.ListN.{length, drop, get_or-append}
use lib.Pow.{pow-add}
use lib.Seq.{get_or-drop, drop_at}
use Rattle.std.specs.Int.{bytes_high_first}
use Rattle.octets.specs.Lists.{octet, part, Octets}
use Rattle.octets.specs.Numbers.{number, number_at, bytes}
use Rattle.octets.proofs.Bounds.{octets_nil, octets_cons}
use Rattle.octets.proofs.Parts.{octet-part}

pub number_step : (k : ℕ) (s : List ℕ) → number (k + 1) s ≡ number k s * 256 + octet s k
unfolding number
number_step k s = rw add-one

-- the first a octets, and the b behind them
pub number-add : (a b : ℕ) (s : List ℕ) → number (a + b) s ≡ number a s * 256 ^ b + number b (drop a s)
unfolding number
number-add a zero s = rw (add-zero a) (sym (add-zero (number a s * 1) ∙ mul-one (number a s)))
number-add a (suc b) s =
    let e : number (a + b) s ≡ number a s * 256 ^ b + number b (drop a s) = number-add a b s in
    let p : number a s * 256 ^ b * 256 ≡ number a s * 256 ^ suc b =
    mul_assoc (number a s) (256 ^ b) 256 ∙ ap (λ (x : ℕ). number a s * x) (sym (pow-suc 256 b))
    in
    let g : octet (drop a s) b ≡ octet s (a + b) = get_or-drop a s b 0 in
    rw add-suc (omega (arith, e, p, g))

-- lists whose first k octets agree
pub number_same : (k : ℕ) (s t : List ℕ) → ((i : ℕ) → i < k → octet s i ≡ octet t i) → number k s ≡ number k t
unfolding number
number_same zero s t h = refl
number_same (suc k) s t h =
    ap₂ (λ (n d : ℕ). n * 256 + d) (number_same k s t (λ i l. h i (omega arith))) (h k (omega arith))

-- what stands behind the first k octets is not read
pub number-front : (k : ℕ) (s t : List ℕ) → length s ≡ k → number k (s ++ t) ≡ number k s
number-front k s t l = number_same k (s ++ t) s (λ i h. get_or-append s t 0 i (omega arith))

pub length-bytes : (k n : ℕ) → length (bytes k n) ≡ k
unfolding bytes
length-bytes zero n = refl
length-bytes (suc k) n = ap suc (length-bytes k n)

pub octets-bytes : (k n : ℕ) → Octets (bytes k n)
unfolding bytes
octets-bytes zero n = octets_nil
octets-bytes (suc k) n = octets_cons (n / 256 ^ k % 256) (bytes k n) (mod-lt (n / 256 ^ k) (lit< tt)) (octets-bytes k n)

-- what stands above the b low octets is not read
bytes_low : (b x y : ℕ) → bytes b (x * 256 ^ b + y) ≡ bytes b y
unfolding bytes
bytes_low zero x y = refl
bytes_low (suc b) x y =
    let e : x * 256 ^ suc b + y ≡ x * 256 * 256 ^ b + y =
    ap (λ (p : ℕ). x * p + y) (pow-suc 256 b ∙ mul_comm (256 ^ b) 256) ∙ ap (λ (p : ℕ). p + y) (sym (mul_assoc x 256 (256 ^ b)))
    in
    ap (λ (n : ℕ). n / 256 ^ b % 256 ∷ bytes b n) e
    ∙ ap₂ (λ (d : ℕ) (l : List ℕ). d ∷ l)
    (ap (λ (n : ℕ). n % 256)
    (ap (λ (n : ℕ). n / 256 ^ b) (add_comm (x * 256 * 256 ^ b) y) ∙ add-mul-div_right y (x * 256) (one-le-pow b 256 (lit≤ tt)))
    ∙ add-mul-mod_self_right (y / 256 ^ b) x 256)
    (bytes_low b (x * 256) y)

pub bytes-append : (a b x y : ℕ) → y < 256 ^ b → bytes (a + b) (x * 256 ^ b + y) ≡ bytes a x ++ bytes b y
unfolding bytes
bytes-append zero b x y h = rw zero-add (bytes_low b x y)
bytes-append (suc a) b x y h =
    let e : (x * 256 ^ b + y) / 256 ^ (a + b) ≡ x / 256 ^ a =
    ap (λ (p : ℕ). (x * 256 ^ b + y) / p) (pow-add 256 a b ∙ mul_comm (256 ^ a) (256 ^ b))
    ∙ sym (div-div-eq-div-mul (x * 256 ^ b + y) (256 ^ b) (256 ^ a))
    ∙ ap (λ (q : ℕ). q / 256 ^ a) (digits_div x h)
    in
    rw suc-add (ap₂ (λ (d : ℕ) (l : List ℕ). d % 256 ∷ l) e (bytes-append a b x y h))

-- two lists, one behind the other
pub number_append : (a b : ℕ) (s t : List ℕ) → length s ≡ a → number (a + b) (s ++ t) ≡ number a s * 256 ^ b + number b t
number_append a b s t l =
    number-add a b (s ++ t)
    ∙ ap₂ (λ (n : ℕ) (u : List ℕ). n * 256 ^ b + number b u)
    (number-front a s t l)
    (drop_at s t a l)

pub number-bytes : (k n : ℕ) → n < 256 ^ k → number k (bytes k n) ≡ n
unfolding number bytes
number-bytes zero n h = omega arith
number-bytes (suc k) n h =
    let q : ℕ = n / 256 ^ k in
    let r : ℕ = n % 256 ^ k in
    let whole : q * 256 ^ k + r ≡ n = div-add-mod' n (256 ^ k) in
    let small : n < 256 * 256 ^ k = rw (mul_comm 256 (256 ^ k), ← pow-suc 256 k) h in
    let top : number 1 (q % 256 ∷ []) ≡ q = zero-add (q % 256) ∙ mod-eq_of_lt ((div-lt_iff_lt-mul (one-le-pow k 256 (lit≤ tt))).1 small) in
    ap (λ (m : ℕ). number m (q % 256 ∷ bytes k n)) (sym (add_comm 1 k ∙ add-one k))
    ∙ number_append 1 k (q % 256 ∷ []) (bytes k n) refl
    ∙ ap₂ (λ (d m : ℕ). d * 256 ^ k + m) top
    (ap (λ (m : ℕ). number k (bytes k m)) (sym whole)
    ∙ ap (number k) (bytes_low k q r)
    ∙ number-bytes k r (mod-lt n (one-le-pow k 256 (lit≤ tt))))
    ∙ whole

-- ---- a number and its octets

-- as std writes them
pub bytes-std : (k n : ℕ) → bytes_high_first k n ≡ bytes k n
unfolding bytes
bytes-std zero n = refl
bytes-std (suc zero) n = ap (λ (x : ℕ). x % 256 ∷ []) (sym (div-one n))
bytes-std (suc (suc k)) n = ap (λ (l : List ℕ). n / 256 ^ suc k % 256 ∷ l) (bytes-std (suc k) n)

pub octet_powers : (b : ℕ) → 2 ^ (8 * b) ≡ 256 ^ b
octet_powers zero = refl
octet_powers (suc b) =
    let e : 8 * suc b ≡ 8 * b + 8 = omega arith in
    ap (λ (x : ℕ). 2 ^ x) e ∙ pow-add 2 (8 * b) 8 ∙ ap (λ (x : ℕ). x * 256) (octet_powers b) ∙ sym (pow-suc 256 b)

pub number_lt : (k : ℕ) (s : List ℕ) → Octets s → number k s < 256 ^ k
unfolding number
number_lt zero s h = lit< tt
number_lt (suc k) s h = rw (pow-suc 256 k) (digits_lt (number_lt k s h) (h k))

pub number_at-lt : (at k : ℕ) (s : List ℕ) → Octets s → number_at at k s < 256 ^ k
number_at-lt at k s h = number_lt k (drop at s) (λ i. rw (get_or-drop at s i 0) (h (at + i)))

-- the octet with b octets behind it
pub number-octet : (i b : ℕ) (s : List ℕ) → Octets s → number (i + 1 + b) s / 256 ^ b % 256 ≡ octet s i
number-octet i b s h =
    ap (λ (n : ℕ). n / 256 ^ b % 256) (number-add (i + 1) b s)
    ∙ ap (λ (n : ℕ). n % 256) (digits_div (number (i + 1) s) (number_at-lt (i + 1) b s h) ∙ number_step i s)
    ∙ digits_mod (number i s) (h i)

-- the number below 256 ^ k that has these octets
pub number_made : (k n : ℕ) (s : List ℕ) → n < 256 ^ k → ((i b : ℕ) → i + 1 + b ≡ k → octet s i ≡ n / 256 ^ b % 256) → number k s ≡ n
unfolding number
number_made zero n s small h = omega arith
number_made (suc k) n s small h =
    let rest : (b : ℕ) → n / 256 ^ suc b ≡ n / 256 / 256 ^ b =
    λ b. ap (λ (p : ℕ). n / p) (pow-suc 256 b ∙ mul_comm (256 ^ b) 256) ∙ sym (div-div-eq-div-mul n 256 (256 ^ b))
    in
    let front : number k s ≡ n / 256 =
    number_made k (n / 256) s ((div-lt_iff_lt-mul (lit< tt)).1 (rw pow-suc at small))
    (λ i b e. h i (suc b) (add-suc (i + 1) b ∙ ap suc e) ∙ ap (λ (m : ℕ). m % 256) (rest b))
    in
    let last : octet s k ≡ n % 256 = h k 0 (add-zero (k + 1) ∙ add-one k) ∙ ap (λ (m : ℕ). m % 256) (div-one n) in
    ap₂ (λ (m d : ℕ). m * 256 + d) front last ∙ div-add-mod' n 256

-- ---- the number at a place

-- of two lists whose octets agree there
pub number_at-same : (at k : ℕ) (s t : List ℕ) → ((i : ℕ) → i < k → octet s (at + i) ≡ octet t (at + i)) → number_at at k s ≡ number_at at k t
number_at-same at k s t h = number_same k (drop at s) (drop at t) (λ i l. get_or-drop at s i 0 ∙ h i l ∙ sym (get_or-drop at t i 0))

-- of a part of a list
pub number_at-part : (at n from k : ℕ) (s : List ℕ) → from + k ≤ n → number_at from k (part at n s) ≡ number_at (at + from) k s
number_at-part at n from k s h =
    number_same k (drop from (part at n s)) (drop (at + from) s)
    (λ i l.
    get_or-drop from (part at n s) i 0
    ∙ octet-part at n s (from + i) (omega arith)
    ∙ ap (octet s) (sym (add_assoc at from i))
    ∙ sym (get_or-drop (at + from) s i 0))
