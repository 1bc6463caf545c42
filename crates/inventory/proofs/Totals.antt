-- How many octets an inventory has: two for how many keys it tells of, and three for each; and its reply in two pieces, as the code writes
-- it, what stands before the keys and the keys.
-- Assumes nothing.
use mathlib.Core.Path.{◌≡◌, refl, ap, ap₂, sym, ◌∙◌}
use mathlib.Core.Bool.{Bool, true, false, cond}
use mathlib.Core.List.{List, [], ◌∷◌, ◌++◌, append_assoc}
use Prim.Native.Nat.{ℕ, zero, suc, ◌+◌, ◌*◌, ◌/◌, ◌%◌, ◌≤◌, ◌<◌}
use native.Mathlib.Nat.{div-one}
use native.Mathlib.Omega.{arith}
use lib.ListN.{length, length-append}
use Rattle.std.specs.List.{range_with_len, filter}
use Rattle.std.proofs.lemmas.List.Elements.{filter-append}
use Rattle.octets.specs.Numbers.{bytes}
use Rattle.octets.proofs.Numbers.{length-bytes}
use Rattle.writing.specs.Text.{end_to_end}
use Rattle.command_form.specs.Form.{reply_tag, reply_to}
use Rattle.keys.specs.Keys.{most_keys}
use Rattle.keys.proofs.Loops.{range_more}
use Rattle.inventory.specs.Inventory.{between, passing, told_of, told_between, inventory}

-- ---- how many numbers pass a test

pub total-passing : (n : ℕ) (test : ℕ → Bool) → length (filter test (range_with_len 0 n)) ≡ passing n test
unfolding passing
total-passing zero test = refl
total-passing (suc n) test =
    ap (λ ks. length (filter test ks)) (range_more n)
    ∙ ap length (filter-append test (range_with_len 0 n) (n ∷ []))
    ∙ length-append (filter test (range_with_len 0 n)) (filter test (n ∷ []))
    ∙ ap₂ ◌+◌ (total-passing n test) (one (test n))
  where
    one : (t : Bool) → length (cond t (n ∷ []) []) ≡ cond t 1 0
    one true = refl
    one false = refl

one-most : (t : Bool) → cond t 1 0 ≤ 1
one-most true = omega arith
one-most false = omega arith

pub passing-most : (n : ℕ) (test : ℕ → Bool) → passing n test ≤ n
unfolding passing
passing-most zero test = omega arith
passing-most (suc n) test = omega (arith, passing-most n test, one-most (test n))

-- ---- how long the keys are, and all

module _ (image : List ℕ) (at first last : ℕ) where
  told-length : (k : ℕ) → length (told_between image at first last k) ≡ 3 * cond (between image at first last k) 1 0
  unfolding bytes
  told-length k = of (between image at first last k)
    where
      of : (t : Bool) → length (cond t (told_of image at k) []) ≡ 3 * cond t 1 0
      of true = refl
      of false = refl

  pub keys_length : (n : ℕ) → length (end_to_end n (told_between image at first last)) ≡ 3 * passing n (between image at first last)
  unfolding end_to_end passing
  keys_length zero = refl
  keys_length (suc n) = simp length-append (omega (arith, keys_length n, told-length n))

  module _ (count : ℕ) where
    abbrev total : ℕ
    total = passing count (between image at first last)

    abbrev keys_told : List ℕ
    keys_told = end_to_end count (told_between image at first last)

    inventory-length : length (inventory image at count first last) ≡ 2 + 3 * total
    unfolding inventory
    inventory-length = simp length-append (omega (arith, length-bytes 2 total, keys_length count))

    pub reply-length : length (reply_to 0x07 (inventory image at count first last)) ≡ 5 + 3 * total
    reply-length = simp length-append (omega (arith, length-bytes 2 (length (inventory image at count first last)), inventory-length))

    pub reply_pieces : reply_to 0x07 (inventory image at count first last)
        ≡ (reply_tag 0x07 ∷ (bytes 2 (2 + 3 * total) ++ bytes 2 total)) ++ keys_told
    unfolding inventory
    reply_pieces =
        ap (λ (t : List ℕ). reply_tag 0x07 ∷ t)
        (ap (λ (n : ℕ). bytes 2 n ++ (bytes 2 total ++ keys_told)) inventory-length
        ∙ sym (append_assoc (bytes 2 (2 + 3 * total)) (bytes 2 total) keys_told))

    -- at most 64 keys: 197 octets
    pub reply-most : count ≤ most_keys → length (reply_to 0x07 (inventory image at count first last)) ≤ 197
    reply-most few = omega (arith, reply-length, passing-most count (between image at first last))

-- what stands before the keys, octet by octet
pub opening_octets : (n : ℕ) → n < 256
    → 0x87 ∷ (2 + 3 * n) / 256 % 256 ∷ (2 + 3 * n) % 256 ∷ 0 ∷ n ∷ [] ≡ reply_tag 0x07 ∷ (bytes 2 (2 + 3 * n) ++ bytes 2 n)
unfolding bytes
opening_octets n small =
    let high : n / 256 % 256 ≡ 0 = omega arith in
    let low : n % 256 ≡ n = omega arith in
    rw (div-one (2 + 3 * n), div-one n, high, low)
