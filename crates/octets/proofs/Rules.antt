-- Laws of a list by rule, and of a loop that writes one, an octet a turn.
--     Filled       after i turns: the list is as long as it was, and its first i octets are f 0 .. f (i - 1)
--     filled_none, filled_more, filled_all     before the first turn; a turn; at the end
-- Assumes nothing.
use mathlib.Core.Path.{◌≡◌, ◌∙◌, refl, sym, ap, ap₂, subst}
use mathlib.Core.List.{List, [], ◌∷◌, ◌++◌}
use Prim.Native.Nat.{ℕ, zero, suc, ◌+◌, ◌≤◌, ◌<◌}
use native.Mathlib.Decide.{dec_lt}
use native.Mathlib.Numerals.{add-one}
use native.Mathlib.Omega.{arith}
use lib.ListN.{length, set, take, length-append, length-set, get_or-append}
use lib.Seq.{take-suc-set, take_all, get_or_at}
use Rattle.octets.specs.Lists.{octet, tab}

pub length-tab : (n : ℕ) (f : ℕ → ℕ) → length (tab n f) ≡ n
unfolding tab
length-tab zero f = refl
length-tab (suc n) f = simp (length-append, length-tab n f) (add-one n)

pub tab_ext : (n : ℕ) {f g : ℕ → ℕ} → ((j : ℕ) → j < n → f j ≡ g j) → tab n f ≡ tab n g
unfolding tab
tab_ext zero h = refl
tab_ext (suc n) {f} {g} h =
    ap₂ (λ (a : List ℕ) (b : ℕ). a ++ (b ∷ [])) (tab_ext n (λ j k. h j (omega arith))) (h n (omega arith))

-- the octet at each place
octet_last : (n : ℕ) (f : ℕ → ℕ) (i : ℕ) → i < suc n → (i < n → octet (tab n f) i ≡ f i) → Dec (i < n)
    → octet (tab n f ++ (f n ∷ [])) i ≡ f i
octet_last n f i h below (yes l) = get_or-append (tab n f) (f n ∷ []) 0 i (omega (arith, length-tab n f)) ∙ below l
octet_last n f i h below (no g) =
    let e : n ≡ i = omega arith in
    get_or_at (tab n f) (f n) [] 0 i (length-tab n f ∙ e) ∙ ap f e

pub octet-tab : (n : ℕ) (f : ℕ → ℕ) (i : ℕ) → i < n → octet (tab n f) i ≡ f i
unfolding tab
octet-tab zero f i h = absurd (omega arith)
octet-tab (suc n) f i h = octet_last n f i h (octet-tab n f i) (dec_lt i n)

pub record Filled (n : ℕ) (f : ℕ → ℕ) (out : List ℕ) (i : ℕ) : Type 0 where
  pub within : i ≤ n
  pub long : length out ≡ n
  pub front : take i out ≡ tab i f

module _ {n : ℕ} {f : ℕ → ℕ} {out : List ℕ} where
  pub filled_none : length out ≡ n → Filled n f out 0
  unfolding tab
  filled_none e = record { within = omega arith; long = e; front = refl }

  pub filled_more : {i v : ℕ} → i < n → v ≡ f i → Filled n f out i → Filled n f (set out i v) (i + 1)
  unfolding tab
  filled_more {i} {v} h e g =
      record {
        within = omega arith;
        long = length-set out i v ∙ g.long;
        front = rw add-one (take-suc-set out i v (omega arith) ∙ ap₂ (λ (a : List ℕ) (b : ℕ). a ++ (b ∷ [])) g.front e);
      }

  pub filled_all : {i : ℕ} → n ≤ i → Filled n f out i → out ≡ tab n f
  filled_all {i} h g =
      let e : i ≡ n = omega arith in
      sym (take_all n out (omega arith)) ∙ subst (λ (k : ℕ). take k out ≡ tab k f) e g.front
