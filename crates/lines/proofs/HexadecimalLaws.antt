-- Laws of octets in hexadecimal: what a digit stands for, and a text that is read two characters a turn.
--     Reading       after i turns: the first i octets that the text spells are at the front, and what is left of the text spells the others
--     reading_none, reading_more     before the first turn; a turn
--     none-spelled, all_read     the two ends of reading
-- Assumes nothing.
use mathlib.Core.Path.{◌≡◌, ◌∙◌, refl, sym, ap}
use mathlib.Core.List.{List, [], ◌∷◌, ◌++◌}
use Prim.Native.Nat.{ℕ, suc, min, ◌+◌, ◌*◌, ◌/◌, ◌≤◌, ◌<◌}
use native.Mathlib.Nat.{add-zero, zero-add}
use native.Mathlib.Numerals.{add-one}
use native.Mathlib.Omega.{arith}
use native.Mathlib.Decide.{dec_lt}
use lib.ListN.{length, set, take, drop, length-drop, length-set}
use lib.Seq.{drop-cons, drop-drop, get_or-drop, paste-suc}
use Rattle.lines.proofs.Counting.{prefix_len_of_le}
use Rattle.octets.specs.Lists.{octet}
use Rattle.std.specs.Prelude.{Option, Some, None}
use Rattle.lines.specs.Hexadecimal.{octet_of, then_octets, octets_of, Read}

-- ---- the octets that a text spells from a place on

short : (s : List ℕ) → length s < 2 → octets_of s ≡ []
unfolding octets_of
short [] h = refl
short (c ∷ []) h = refl
short (c ∷ d ∷ s) h = absurd (omega arith)

module _ (s : List ℕ) (k : ℕ) (two : k + 1 < length s) where
  pair : octets_of (drop k s) ≡ then_octets (octet_of (octet s k) (octet s (k + 1))) (octets_of (drop (k + 1 + 1) s))
  unfolding octets_of
  pair = rw (drop-cons s k 0 (omega arith), drop-cons s (suc k) 0 (omega arith), ← add-one k, ← add-one (k + 1))

  pub spells_none : None ≡ octet_of (octet s k) (octet s (k + 1)) → octets_of (drop k s) ≡ []
  spells_none e = pair ∙ ap (λ (o : Option ℕ). then_octets o (octets_of (drop (k + 1 + 1) s))) (sym e)

  pub spells : (x : ℕ) → Some x ≡ octet_of (octet s k) (octet s (k + 1)) → octets_of (drop k s) ≡ x ∷ octets_of (drop (k + 1 + 1) s)
  spells x e = pair ∙ ap (λ (o : Option ℕ). then_octets o (octets_of (drop (k + 1 + 1) s))) (sym e)

-- ---- reading

pub record Reading (text before after : List ℕ) (i : ℕ) : Type 0 where
  pub long : length after ≡ length before
  pub room : i ≤ length before
  pub within : i ≤ length (octets_of text)
  pub rest : octets_of (drop (2 * i) text) ≡ drop i (octets_of text)
  pub front : after ≡ take i (octets_of text) ++ drop i before

pub reading_none : (text before : List ℕ) → Reading text before before 0
reading_none text before = record { long = refl; room = omega arith; within = omega arith; rest = refl; front = refl }

-- a list from place i on is one element and the others
module _ (s t : List ℕ) (i x : ℕ) (e : drop i s ≡ x ∷ t) where
  inside : i < length s
  inside = omega (arith, simp length-drop at (ap length e))

  first-is : octet s i ≡ x
  first-is = rw add-zero at (sym (get_or-drop i s 0 0) ∙ ap (λ (l : List ℕ). octet l 0) e)

  others_are : drop (i + 1) s ≡ t
  others_are = sym (drop-drop 1 i s) ∙ ap (λ (l : List ℕ). drop 1 l) e

module _ {text before after : List ℕ} {i : ℕ} (r : Reading text before after i) where
  pub reading_more : (x : ℕ) → 2 * i + 1 < length text → i < length before → Some x ≡ octet_of (octet text (2 * i)) (octet text (2 * i + 1))
      → Reading text before (set after i x) (i + 1)
  reading_more x two more h =
      let t : List ℕ = octets_of (drop (2 * i + 1 + 1) text) in
      let e : drop i (octets_of text) ≡ x ∷ t = sym r.rest ∙ spells text (2 * i) two x h in
      let l : i < length (octets_of text) = inside (octets_of text) t i x e in
      let k : 2 * (i + 1) ≡ 2 * i + 1 + 1 = omega arith in
      record {
        long = length-set after i x ∙ r.long;
        room = omega arith;
        within = omega arith;
        rest = rw k (sym (others_are (octets_of text) t i x e));
        front = rw (r.front, ← first-is (octets_of text) t i x e, add-one)
            (simp zero-add at (paste-suc before 0 (octets_of text) i 0 (omega arith) l));
      }

  ended : octets_of (drop (2 * i) text) ≡ [] → Read text before after i
  ended e =
      let l : length (octets_of text) ≡ i = omega (arith, simp length-drop at (ap length (sym r.rest ∙ e)), r.within) in
      record { many = omega (arith, r.room); front = r.front; counts = prefix_len_of_le _ _ (omega (arith, r.long, r.room)) }

  pub none-spelled : 2 * i + 1 < length text → None ≡ octet_of (octet text (2 * i)) (octet text (2 * i + 1)) → Read text before after i
  none-spelled two h = ended (spells_none text (2 * i) two h)

  text_ended : length text / 2 ≤ i → Read text before after i
  text_ended h = ended (short (drop (2 * i) text) (simp length-drop (omega arith)))

  room_filled : length before ≤ i → Read text before after i
  room_filled h =
      record {
        many = omega (arith, r.room, r.within);
        front = r.front;
        counts = prefix_len_of_le _ _ (omega (arith, r.long, r.room));
      }

  pub all_read : i ≡ min (length before) (length text / 2) → Read text before after i
  all_read e = by_room (dec_lt i (length before))
    where
      by_room : Dec (i < length before) → Read text before after i
      by_room (no full) = room_filled (omega arith)
      by_room (yes more) = text_ended (omega arith)
