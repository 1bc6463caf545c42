-- GHASH over a string that is made of parts: part by part, each filled with zeros to whole blocks.
-- Assumes nothing.
use mathlib.Core.Path.{◌≡◌, refl, sym, ap, ap₂, ◌∙◌}
use mathlib.Core.List.{List, [], ◌∷◌, ◌++◌, append_assoc, append-nil}
use Prim.Native.Nat.{ℕ, zero, suc, ◌+◌, ◌-◌, ◌*◌, ◌/◌, ◌%◌, ◌^◌, ◌≤◌, ◌<◌, min}
use native.Mathlib.Nat.{zero-add, suc-add, mod-lt, div-add-mod'}
use native.Mathlib.Omega.{arith}
use lib.Dec.{lit<}
use lib.ListN.{length, drop, replicate, length-append, length-drop, length-replicate, get_or-append}
use lib.Seq.{drop-append-le, get_or-drop}
use Rattle.octets.specs.Lists.{octet}
use Rattle.octets.specs.Numbers.{number, bytes}
use Rattle.octets.specs.Xor.{◌⊕◌}
use Rattle.octets.proofs.Numbers.{number_same, number_append, number-bytes, bytes-append, length-bytes}
use Rattle.block.specs.Lengths.{len, blocks}
use Rattle.ghash.specs.Product.{◌•◌}
use Rattle.ghash.specs.Ghash.{ghash_from, ghash}
use Rattle.ghash.specs.Input.{fill, hash_input}

-- lists whose octets agree at every place, past their ends too
hash_same : (h n y : ℕ) (s t : List ℕ) → ((i : ℕ) → octet s i ≡ octet t i) → ghash_from h n y s ≡ ghash_from h n y t
unfolding ghash_from
hash_same h zero y s t e = refl
hash_same h (suc n) y s t e =
    ap (λ (x : ℕ). ghash_from h n ((y ⊕ x) • h) (drop 16 s)) (number_same 16 s t (λ i l. e i))
    ∙ hash_same h n ((y ⊕ number 16 t) • h) (drop 16 s) (drop 16 t) (λ i. get_or-drop 16 s i 0 ∙ e (16 + i) ∙ sym (get_or-drop 16 t i 0))

-- whole blocks, and what stands behind them
hash_append : (h n m y : ℕ) (s t : List ℕ) → length s ≡ 16 * n → ghash_from h (n + m) y (s ++ t) ≡ ghash_from h m (ghash_from h n y s) t
unfolding ghash_from
hash_append h zero m y [] t l = ap (λ (k : ℕ). ghash_from h k y t) (zero-add m)
hash_append h zero m y (x ∷ s) t l = absurd (omega arith)
hash_append h (suc n) m y s t l =
    let whole : 16 ≤ length s = omega arith in
    let left : length (drop 16 s) ≡ 16 * n = omega (arith, length-drop 16 s) in
    ap (λ (k : ℕ). ghash_from h k y (s ++ t)) (suc-add n m)
    ∙ ap₂ (λ (x : ℕ) (u : List ℕ). ghash_from h (n + m) ((y ⊕ x) • h) u)
    (number_same 16 (s ++ t) s (λ i k. get_or-append s t 0 i (omega arith)))
    (drop-append-le 16 s t whole)
    ∙ hash_append h n m ((y ⊕ number 16 s) • h) (drop 16 s) t left

-- a first piece x, which is a block or else all that is left, and the rest t
hash_piece : (h y : ℕ) (x t : List ℕ) → 0 < length (x ++ t) → length x ≡ min 16 (length (x ++ t))
    → ghash_from h (blocks (length (x ++ t))) y (x ++ t) ≡ ghash_from h (blocks (length t)) ((y ⊕ number 16 x) • h) t
unfolding ghash_from
hash_piece h y x [] some e =
    let same : x ++ [] ≡ x = append-nil x in
    let one : blocks (length (x ++ [])) ≡ 1 = omega (arith, ap length same) in
    rw (one, same)
hash_piece h y x (o ∷ t) some e =
    let long : length (x ++ (o ∷ t)) ≡ length x + length (o ∷ t) = length-append x (o ∷ t) in
    let whole : length x ≡ 16 * 1 = omega arith in
    let count : blocks (length (x ++ (o ∷ t))) ≡ 1 + blocks (length (o ∷ t)) = omega arith in
    rw count (hash_append h 1 (blocks (length (o ∷ t))) y x (o ∷ t) whole)

pub hash_more : (h y b a z p : ℕ) (s x t : List ℕ) → (s ≡ x ++ t) × (length x ≡ min 16 (length s)) × (0 < length s)
    → ghash_from h (blocks (length s)) y s ≡ p → b ≡ number 16 (drop 0 x) → a ≡ y ⊕ b → z ≡ a • h → ghash_from h (blocks (length t)) z t ≡ p
hash_more h y b a z p s x t cut e eb ea ez =
    let long : length s ≡ length (x ++ t) = ap length cut.0 in
    cc (hash_piece h y x t (omega arith) (omega arith))

pub hash_none : (h y : ℕ) (s : List ℕ) → length s ≡ 0 → ghash_from h (blocks (length s)) y s ≡ y
unfolding ghash_from
hash_none h y s e = rw e

-- zeros behind a list change no octet
octet-zeros : (k i : ℕ) → octet (replicate k 0) i ≡ 0
octet-zeros zero i = refl
octet-zeros (suc k) zero = refl
octet-zeros (suc k) (suc i) = octet-zeros k i

octet_filled : (s : List ℕ) (k i : ℕ) → octet (s ++ replicate k 0) i ≡ octet s i
octet_filled [] k i = octet-zeros k i
octet_filled (x ∷ s) k zero = refl
octet_filled (x ∷ s) k (suc i) = octet_filled s k i

length_filled : (s : List ℕ) → length (s ++ fill s) ≡ 16 * blocks (length s)
length_filled s =
    omega (arith, length-append s (fill s), length-replicate {A = ℕ} (16 * blocks (length s) - length s) 0)

-- a part that is filled with zeros, and what stands behind it
hash_part : (h m y : ℕ) (s t : List ℕ)
    → ghash_from h (blocks (length s) + m) y (s ++ fill s ++ t) ≡ ghash_from h m (ghash_from h (blocks (length s)) y s) t
hash_part h m y s t =
    hash_append h (blocks (length s)) m y (s ++ fill s) t (length_filled s)
    ∙ ap (λ (z : ℕ). ghash_from h m z t)
    (hash_same h (blocks (length s)) y (s ++ fill s) s (octet_filled s (16 * blocks (length s) - length s)))

-- the last block: the two lengths, of which 64 bits are kept
low-number : (n : ℕ) → number 8 (bytes 8 n) ≡ n % 2 ^ 64
unfolding bytes
low-number n =
    let small : n % 2 ^ 64 < 256 ^ 8 = mod-lt n (lit< tt) in
    ap (λ (m : ℕ). number 8 (bytes 8 m)) (sym (div-add-mod' n (2 ^ 64)))
    ∙ ap (number 8) (bytes-append 0 8 (n / 2 ^ 64) (n % 2 ^ 64) small)
    ∙ number-bytes 8 (n % 2 ^ 64) small

number_lengths : (a c : ℕ) → number 16 (bytes 8 a ++ bytes 8 c) ≡ a % 2 ^ 64 * 2 ^ 64 + c % 2 ^ 64
number_lengths a c =
    number_append 8 8 (bytes 8 a) (bytes 8 c) (length-bytes 8 a)
    ∙ ap₂ (λ (x y : ℕ). x * 2 ^ 64 + y) (low-number a) (low-number c)

-- the one GHASH of 7.1, step 5, part by part
module _ (a c : List ℕ) where
  lengths : List ℕ
  lengths = bytes 8 (len a) ++ bytes 8 (len c)

  by_parts : hash_input a c ≡ a ++ fill a ++ (c ++ fill c ++ lengths)
  unfolding hash_input lengths
  by_parts = simp append_assoc

  blocks-all : length (a ++ fill a ++ (c ++ fill c ++ lengths)) / 16 ≡ blocks (length a) + (blocks (length c) + 1)
  unfolding lengths
  blocks-all =
      let e : length lengths ≡ 16 =
      length-append (bytes 8 (len a)) (bytes 8 (len c)) ∙ ap₂ ◌+◌ (length-bytes 8 (len a)) (length-bytes 8 (len c))
      in
      omega
      (arith, length_filled a, length_filled c, length-append (a ++ fill a) (c ++ fill c ++ lengths), length-append (c ++ fill c) lengths)

  input_hashed : (h : ℕ)
      → ghash h (hash_input a c)
      ≡ (ghash_from h (blocks (length c)) (ghash_from h (blocks (length a)) 0 a) c ⊕ (len a % 2 ^ 64 * 2 ^ 64 + len c % 2 ^ 64)) • h
  unfolding ghash ghash_from lengths
  input_hashed h =
      let y : ℕ = ghash_from h (blocks (length a)) 0 a in
      let z : ℕ = ghash_from h (blocks (length c)) y c in
      ap (ghash h) by_parts
      ∙ ap (λ (n : ℕ). ghash_from h n 0 (a ++ fill a ++ (c ++ fill c ++ lengths))) blocks-all
      ∙ hash_part h (blocks (length c) + 1) 0 a (c ++ fill c ++ lengths)
      ∙ hash_part h 1 y c lengths
      ∙ ap (λ (n : ℕ). (z ⊕ n) • h) (number_lengths (len a) (len c))

  -- from what each step gives: the data's hash y, the text's z, the two lengths, and the sum x with them
  pub hash_made : (h y z la lc x m : ℕ) → y ≡ ghash_from h (blocks (length a)) 0 a → z ≡ ghash_from h (blocks (length c)) y c
      → la ≡ len a % 2 ^ 64 → lc ≡ len c % 2 ^ 64 → x ≡ z ⊕ (la * 2 ^ 64 + lc) → m ≡ x • h → m ≡ ghash h (hash_input a c)
  hash_made h y z la lc x m ey ez ea ec ex em = cc (input_hashed h)
