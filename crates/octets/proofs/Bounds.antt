-- Lists whose numbers are octets stay so when they are joined, chosen between, made by a rule, exclusive-ored or changed in one place.
-- Assumes nothing.
use mathlib.Core.Path.{◌≡◌}
use mathlib.Core.Bool.{Bool, true, false, cond}
use mathlib.Core.List.{List, [], ◌∷◌, ◌++◌}
use Prim.Native.Nat.{ℕ, zero, suc, ◌<◌}
use native.Mathlib.Decide.{ℕ_discrete, dec_lt}
use native.Mathlib.Omega.{arith}
use lib.Bits.{xor_lt}
use lib.Dec.{lit<}
use lib.ListN.{length, set}
use lib.Seq.{get_or-set_same, get_or-set_other, set_out}
use Rattle.octets.specs.Lists.{octet, tab, Octets}
use Rattle.octets.specs.Xor.{xors}

pub octets_nil : Octets []
octets_nil i = lit< tt

pub octets_cons : (x : ℕ) (xs : List ℕ) → x < 256 → Octets xs → Octets (x ∷ xs)
octets_cons x xs h hs zero = h
octets_cons x xs h hs (suc i) = hs i

pub octets-append : (a b : List ℕ) → Octets a → Octets b → Octets (a ++ b)
octets-append [] b ha hb i = hb i
octets-append (x ∷ xs) b ha hb zero = ha zero
octets-append (x ∷ xs) b ha hb (suc i) = octets-append xs b (λ j. ha (suc j)) hb i

pub octets-cond : (t : Bool) (a b : List ℕ) → Octets a → Octets b → Octets (cond t a b)
octets-cond true a b ha hb = ha
octets-cond false a b ha hb = hb

pub octets-tab : (n : ℕ) (f : ℕ → ℕ) → ((i : ℕ) → i < n → f i < 256) → Octets (tab n f)
unfolding tab
octets-tab zero f h = octets_nil
octets-tab (suc n) f h =
    octets-append (tab n f) (f n ∷ []) (octets-tab n f (λ i k. h i (omega arith))) (octets_cons (f n) [] (h n (omega arith)) octets_nil)

pub octets-xors : (n : ℕ) (a b : List ℕ) → Octets a → Octets b → Octets (xors n a b)
unfolding xors
octets-xors n a b ha hb = octets-tab n _ (λ i h. xor_lt 8 (octet a i) (octet b i) (ha i) (hb i))

pub octets-set : (s : List ℕ) (i v : ℕ) → Octets s → v < 256 → Octets (set s i v)
octets-set s i v hs h j = by_place (ℕ_discrete j i) (dec_lt i (length s))
  where
    by_place : Dec (j ≡ i) → Dec (i < length s) → octet (set s i v) j < 256
    by_place (yes e) (yes l) = rw (e, get_or-set_same s i v 0 l) h
    by_place (yes e) (no g) = rw (set_out s i v (omega arith)) (hs j)
    by_place (no other) d = rw (get_or-set_other s i j v 0 other) (hs j)
