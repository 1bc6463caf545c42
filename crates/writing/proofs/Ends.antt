-- Lists laid end to end: one more, room for one where all have room, and lists of equal length.
-- Assumes nothing.
use mathlib.Core.Path.{◌≡◌, refl, ap, ap₂, sym, ◌∙◌}
use mathlib.Core.List.{List, [], ◌++◌}
use Prim.Native.Nat.{ℕ, zero, suc, ◌+◌, ◌*◌, ◌≤◌, ◌<◌}
use native.Mathlib.Decide.{dec_lt}
use native.Mathlib.Nat.{add_assoc}
use native.Mathlib.Numerals.{add-one}
use native.Mathlib.Omega.{arith}
use lib.Arith.{digits_lt}
use lib.ListN.{length, length-append, get_or-append}
use lib.Seq.{get_or-append-add}
use Rattle.octets.specs.Lists.{octet, tab, part, Octets}
use Rattle.octets.proofs.Bounds.{octets_nil, octets-append}
use Rattle.octets.proofs.Parts.{tab-add}
use Rattle.octets.proofs.Rules.{tab_ext}
use Rattle.writing.specs.Text.{end_to_end}

pub end_none : (f : ℕ → List ℕ) → end_to_end 0 f ≡ []
unfolding end_to_end
end_none f = refl

pub end_more : (n : ℕ) (f : ℕ → List ℕ) → end_to_end (n + 1) f ≡ end_to_end n f ++ f n
unfolding end_to_end
end_more n f = rw add-one

pub end_within : (n : ℕ) (f : ℕ → List ℕ) (i : ℕ) → i < n → length (end_to_end i f) + length (f i) ≤ length (end_to_end n f)
unfolding end_to_end
end_within zero f i h = absurd (omega arith)
end_within (suc n) f i h = by_place (dec_lt i n) (λ l. end_within n f i l)
  where
    whole : length (end_to_end n f ++ f n) ≡ length (end_to_end n f) + length (f n)
    whole = length-append (end_to_end n f) (f n)

    by_place : Dec (i < n) → (i < n → length (end_to_end i f) + length (f i) ≤ length (end_to_end n f))
        → length (end_to_end i f) + length (f i) ≤ length (end_to_end n f ++ f n)
    by_place (yes l) before = omega (arith, before l, whole)
    by_place (no g) before = let e : i ≡ n = omega arith in rw e (omega (arith, whole))

-- n lists, each at most w long
pub end_short : (w n : ℕ) (f : ℕ → List ℕ) → ((i : ℕ) → i < n → length (f i) ≤ w) → length (end_to_end n f) ≤ n * w
unfolding end_to_end
end_short w zero f h = omega arith
end_short w (suc n) f h =
    simp length-append (omega (arith, end_short w n f (λ i l. h i (omega arith)), h n (omega arith)))

-- n lists, each w long: how long they are, and the octets of one of them
module _ (w : ℕ) (f : ℕ → List ℕ) where
  pub end_long : (n : ℕ) → ((j : ℕ) → j < n → length (f j) ≡ w) → length (end_to_end n f) ≡ n * w
  unfolding end_to_end
  end_long zero h = omega arith
  end_long (suc n) h = simp (length-append, end_long n (λ j l. h j (omega arith)), h n (omega arith)) (omega arith)

  pub end_octet : (n : ℕ) → ((j : ℕ) → j < n → length (f j) ≡ w) → (j r : ℕ) → j < n → r < w
      → octet (end_to_end n f) (j * w + r) ≡ octet (f j) r
  unfolding end_to_end
  end_octet zero h j r l k = absurd (omega arith)
  end_octet (suc n) h j r l k = by_place (dec_lt j n) (λ m. end_octet n (λ i o. h i (omega arith)) j r m k)
    where
      long : length (end_to_end n f) ≡ n * w
      long = end_long n (λ i m. h i (omega arith))

      by_place : Dec (j < n) → (j < n → octet (end_to_end n f) (j * w + r) ≡ octet (f j) r)
          → octet (end_to_end n f ++ f n) (j * w + r) ≡ octet (f j) r
      by_place (yes m) before =
          let small : j * w + r < n * w = digits_lt m k in
          get_or-append (end_to_end n f) (f n) 0 (j * w + r) (omega (arith, small, long)) ∙ before m
      by_place (no g) before =
          let e : j ≡ n = omega arith in
          ap (λ (i : ℕ). octet (end_to_end n f ++ f n) (i * w + r)) e
          ∙ ap (λ (i : ℕ). octet (end_to_end n f ++ f n) (i + r)) (sym long)
          ∙ get_or-append-add (end_to_end n f) (f n) r 0
          ∙ ap (λ (i : ℕ). octet (f i) r) (sym e)

pub end_octets : (n : ℕ) (f : ℕ → List ℕ) → ((j : ℕ) → Octets (f j)) → Octets (end_to_end n f)
unfolding end_to_end
end_octets zero f h = octets_nil
end_octets (suc n) f h = octets-append (end_to_end n f) (f n) (end_octets n f h) (h n)

-- ---- lists that agree, lists that are empty, and parts of one list

pub end_same : (n : ℕ) (f g : ℕ → List ℕ) → ((j : ℕ) → j < n → f j ≡ g j) → end_to_end n f ≡ end_to_end n g
unfolding end_to_end
end_same zero f g h = refl
end_same (suc n) f g h = ap₂ (λ (a b : List ℕ). a ++ b) (end_same n f g (λ j l. h j (omega arith))) (h n (omega arith))

pub end_empty : (n : ℕ) (f : ℕ → List ℕ) → ((j : ℕ) → j < n → f j ≡ []) → end_to_end n f ≡ []
unfolding end_to_end
end_empty zero f h = refl
end_empty (suc n) f h = ap₂ (λ (a b : List ℕ). a ++ b) (end_empty n f (λ j l. h j (omega arith))) (h n (omega arith))

pub end_part : (w at n : ℕ) (x : List ℕ) → end_to_end n (λ j. part (at + j * w) w x) ≡ part at (n * w) x
unfolding end_to_end part tab
end_part w at zero x = let e : 0 ≡ 0 * w = omega arith in ap (λ (m : ℕ). part at m x) e
end_part w at (suc n) x =
    let e : suc n * w ≡ n * w + w = omega arith in
    ap₂ (λ (a b : List ℕ). a ++ b) (end_part w at n x) (tab_ext w (λ j l. ap (octet x) (add_assoc at (n * w) j)))
    ∙ sym (tab-add (n * w) w (λ j. octet x (at + j)))
    ∙ ap (λ (m : ℕ). part at m x) (sym e)
