-- The blocks of a message: how many there are, and what each is when its octets are read one by one, with zeros past the end.
-- Assumes nothing.
use mathlib.Core.Path.{◌≡◌, ◌∙◌, refl, sym, ap}
use mathlib.Core.Bool.{Bool, true, false, cond}
use mathlib.Core.List.{List, ◌++◌}
use Prim.Native.Nat.{ℕ, suc, ◌+◌, ◌-◌, ◌*◌, ◌/◌, ◌≤◌, ◌<◌}
use native.Mathlib.Omega.{arith}
use borrow.Author.Tests.{eqb-true, eqb-false, eq-eqb, ne_eqb}
use lib.Dec.{eqb}
use lib.ListN.{length, set, drop, length-append, length-drop, get_or-eq_default}
use lib.Seq.{take_all}
use Rattle.octets.specs.Lists.{octet, tab, part}
use Rattle.octets.specs.Xor.{xors}
use Rattle.octets.proofs.Rules.{length-tab, tab_ext}
use Rattle.octets.proofs.Parts.{octet_past, tab-part, set-tab}
use Rattle.subkeys.specs.Subkeys.{zeros}
use Rattle.message_blocks.specs.Blocks.{block_count, part_of, padded, last_block, block}

by_test : (n : ℕ) (t : Bool) → eqb n 0 ≡ t → cond t 1 ((n + 15) / 16) ≡ (n - 1) / 16 + 1
by_test n true e = omega (arith, eqb-true n 0 e)
by_test n false e =
    let some : n ≡ 0 → ⊥ = eqb-false n 0 e in
    omega arith

-- one count for both cases, since 0 - 1 is 0
pub count-is : (n : ℕ) → block_count n ≡ (n - 1) / 16 + 1
unfolding block_count
count-is n = by_test n (eqb n 0) refl

-- a block starts within the message
pub starts : (head body : List ℕ) (i : ℕ) → i < block_count (length (head ++ body)) → 16 * i ≤ length head + length body
starts head body i h = omega (arith, count-is (length (head ++ body)), length-append head body)

-- the sixteen octets of block i of m, counted from 0, with zeros past the end of m
abbrev pub sixteen : List ℕ → ℕ → List ℕ
sixteen m i = tab 16 (λ j. octet m (16 * i + j))

module _ (m : List ℕ) (i : ℕ) where
  complete : 16 * i + 16 ≤ length m → sixteen m i ≡ part_of m (i + 1)
  unfolding part_of
  complete h =
      let e : i + 1 - 1 ≡ i = omega arith in
      rw e (tab-part 16 (16 * i) m h)

  module _ (r : ℕ) (few : r < 16) (ends : 16 * i + r ≡ length m) where
    front : tab r (λ j. octet m (16 * i + j)) ≡ part_of m (i + 1)
    unfolding part_of
    front =
        let e : i + 1 - 1 ≡ i = omega arith in
        let l : length (drop (16 * i) m) ≡ r = simp length-drop (omega arith) in
        rw e
        (tab-part r (16 * i) m (omega arith) ∙ take_all r (drop (16 * i) m) (omega arith)
        ∙ sym (take_all 16 (drop (16 * i) m) (omega arith)))

    long : length (part_of m (i + 1)) ≡ r
    long = ap length (sym front) ∙ length-tab r _

    back : tab (15 - r) (λ j. octet m (16 * i + (suc r + j))) ≡ zeros (15 - r)
    back = tab_ext (15 - r) (λ j k. get_or-eq_default m 0 (omega arith))

    filled : set (sixteen m i) r 0x80 ≡ padded (part_of m (i + 1))
    unfolding padded
    filled =
        let e : suc r + (15 - r) ≡ 16 = omega arith in
        cc (set-tab r (15 - r) 0x80 (λ j. octet m (16 * i + j)), front, back, long)

  module _ (first second : List ℕ) where
    -- a block with more after it
    pub inner_block : 16 * i + 16 < length m → sixteen m i ≡ block first second m (i + 1)
    unfolding block
    inner_block h =
        simp (ne_eqb (i + 1) (block_count (length m)) (λ e. omega (arith, count-is (length m)))) (complete (omega arith))

    module _ (within : i < block_count (length m)) where
      is_last : length m ≤ 16 * i + 16 → eqb (i + 1) (block_count (length m)) ≡ true
      is_last h = eq-eqb (i + 1) (block_count (length m)) (omega (arith, count-is (length m)))

      -- the last block, if it is complete
      pub whole-block : length m ≡ 16 * i + 16 → xors 16 first (sixteen m i) ≡ block first second m (i + 1)
      unfolding block last_block
      whole-block h =
          let e : sixteen m i ≡ part_of m (i + 1) = complete (omega arith) in
          let l : length (part_of m (i + 1)) ≡ 16 = ap length (sym e) ∙ length-tab 16 _ in
          simp (is_last (omega arith), eq-eqb _ _ l) (ap (xors 16 first) e)

      -- the last block, if it is short
      pub short_block : (r : ℕ) → r < 16 → 16 * i + r ≡ length m → xors 16 second (set (sixteen m i) r 0x80) ≡ block first second m (i + 1)
      unfolding block last_block
      short_block r few ends =
          let n : length (part_of m (i + 1)) ≡ 16 → ⊥ = λ e. omega (arith, long r few ends) in
          simp (is_last (omega arith), ne_eqb _ _ n) (ap (xors 16 second) (filled r few ends))

-- a block that starts behind the head lies in the body
pub in_body : (head body : List ℕ) (i at : ℕ) → length head ≤ 16 * i → at ≡ 16 * i - length head → part at 16 body ≡ sixteen (head ++ body) i
unfolding part
in_body head body i at l e =
    tab_ext 16 (λ j h. ap (octet body) (omega arith) ∙ sym (octet_past head body (16 * i + j) (omega arith)))
