-- The parts that a list is made of: two lists laid end to end, the octets from a place on, and a list by rule with one octet replaced.
-- Assumes nothing.
use mathlib.Core.Path.{◌≡◌, ◌∙◌, refl, ap, sym}
use mathlib.Core.List.{List, [], ◌∷◌, ◌++◌, append-nil, append_assoc}
use Prim.Native.Nat.{ℕ, zero, suc, ◌+◌, ◌-◌, ◌≤◌, ◌<◌}
use native.Mathlib.Nat.{add_assoc, add-zero, add-suc, zero-add, le_refl}
use native.Mathlib.Omega.{arith}
use lib.ListN.{length, set, take, drop, length-drop}
use lib.Seq.{get_or-append-add, take-suc, take-length, get_or-drop, set_at, append_snoc}
use Rattle.octets.specs.Lists.{octet, tab, part}
use Rattle.octets.proofs.Rules.{length-tab, tab_ext, octet-tab}

-- past the first list, an octet is one of the second
pub octet_past : (a b : List ℕ) (i : ℕ) → length a ≤ i → octet (a ++ b) i ≡ octet b (i - length a)
octet_past a b i h =
    let e : i ≡ length a + (i - length a) = omega arith in
    ap (octet (a ++ b)) e ∙ get_or-append-add a b (i - length a) 0

-- the octets of a list, taken one by one, are its front, the list itself if all are taken, and from a place on, that part of it
tab-octets : (n : ℕ) (s : List ℕ) → n ≤ length s → tab n (octet s) ≡ take n s
unfolding tab
tab-octets zero s h = refl
tab-octets (suc n) s h = ap (λ (p : List ℕ). p ++ (octet s n ∷ [])) (tab-octets n s (omega arith)) ∙ sym (take-suc s n 0 (omega arith))

pub tab_self : (s : List ℕ) → tab (length s) (octet s) ≡ s
tab_self s = tab-octets (length s) s (le_refl (length s)) ∙ take-length s

pub tab-part : (n at : ℕ) (s : List ℕ) → at + n ≤ length s → tab n (λ j. octet s (at + j)) ≡ take n (drop at s)
tab-part n at s h =
    tab_ext n (λ j k. sym (get_or-drop at s j 0)) ∙ tab-octets n (drop at s) (simp length-drop (omega arith))

-- a list by rule is its first octets and then the others, so the octet between them can be replaced
pub tab-add : (n k : ℕ) (f : ℕ → ℕ) → tab (n + k) f ≡ tab n f ++ tab k (λ j. f (n + j))
unfolding tab
tab-add n zero f = rw (add-zero, append-nil)
tab-add n (suc k) f = rw (add-suc, tab-add n k f) (append_assoc (tab n f) (tab k (λ j. f (n + j))) (f (n + k) ∷ []))

pub set-tab : (n k v : ℕ) (f : ℕ → ℕ) → set (tab (suc n + k) f) n v ≡ tab n f ++ (v ∷ tab k (λ j. f (suc n + j)))
unfolding tab
set-tab n k v f =
    ap (λ (l : List ℕ). set l n v) (tab-add (suc n) k f ∙ append_snoc (tab n f) (f n) (tab k (λ j. f (suc n + j))))
    ∙ set_at (tab n f) (f n) (tab k (λ j. f (suc n + j))) v n (length-tab n f)

-- ---- the n octets at a place

pub length_part : (at n : ℕ) (s : List ℕ) → length (part at n s) ≡ n
unfolding part
length_part at n s = length-tab n _

pub octet-part : (at n : ℕ) (s : List ℕ) (i : ℕ) → i < n → octet (part at n s) i ≡ octet s (at + i)
unfolding part
octet-part at n s i h = octet-tab n _ i h

-- two lists whose octets agree there
pub part_same : (at n : ℕ) (s t : List ℕ) → ((i : ℕ) → i < n → octet s (at + i) ≡ octet t (at + i)) → part at n s ≡ part at n t
unfolding part
part_same at n s t h = tab_ext n h

-- a list from its front to its end
pub part_self : (n : ℕ) (s : List ℕ) → length s ≡ n → part 0 n s ≡ s
unfolding part
part_self n s e = tab_ext n (λ j k. ap (octet s) (zero-add j)) ∙ ap (λ (m : ℕ). tab m (octet s)) (sym e) ∙ tab_self s

-- a part of a part
pub part-part : (at n from k : ℕ) (s : List ℕ) → from + k ≤ n → part from k (part at n s) ≡ part (at + from) k s
unfolding part
part-part at n from k s h =
    tab_ext k (λ i l. octet-part at n s (from + i) (omega arith) ∙ ap (octet s) (sym (add_assoc at from i)))

-- inside the list
pub part-inside : (at n : ℕ) (s : List ℕ) → at + n ≤ length s → part at n s ≡ take n (drop at s)
unfolding part
part-inside at n s h = tab-part n at s h
