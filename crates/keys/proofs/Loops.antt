-- A search and a fold over the numbers below a count, in the words of the definitions.
-- Assumes nothing.
use Rattle.std.proofs.Common.{◌≡◌, refl, sym, ap, ◌∙◌, ℕ, ◌+◌, Bool, true, false, cond, List, [], ◌∷◌, ◌++◌, Option, Some, eqb, ◌-◌, arith}
use mathlib.Core.Bool.{◌&&◌}
use Prim.Native.Nat.{zero, suc}
use denote.Param.Members.{Mut}
use Rattle.std.specs.Fn.{Called}
use Rattle.std.specs.Iterator.{Drains}
use Rattle.std.proofs.iter.Yields.{nat_range_steps}
use Rattle.std.specs.declared.ops.Range.{Range}
use Rattle.std.specs.List.{range_with_len, find, fold, FoldsTo}
use Rattle.std.specs.Option.{unwrap_or}
use Rattle.std.proofs.lemmas.Iterator.{YieldsList-from_range}
use Rattle.std.proofs.lemmas.Fn.{fold_over}
use Rattle.std.proofs.lemmas.List.Sums.{fold_push}
use Rattle.std.proofs.iter.Rest.{range_with_len_last}
use Rattle.octets.specs.Lists.{all}
use Rattle.keys.specs.Keys.{key_id_at, key_from}

-- the search of the definition is `find` over the numbers that are left
pub from_find : (image : List ℕ) (at id k n end : ℕ) → k + n ≡ end
    → unwrap_or (find (λ j. eqb (key_id_at image at j) id) (range_with_len k n)) end ≡ key_from image at id k n
unfolding key_from
from_find image at id k zero end e = omega arith
from_find image at id k (suc n) end e = of (eqb (key_id_at image at k) id) (from_find image at id (k + 1) n end (omega arith))
  where
    rest : Option ℕ
    rest = find (λ j. eqb (key_id_at image at j) id) (range_with_len (k + 1) n)

    of : (t : Bool) → unwrap_or rest end ≡ key_from image at id (k + 1) n → unwrap_or (cond t (Some k) rest) end ≡ cond t k (key_from image at id (k + 1) n)
    of true h = refl
    of false h = h

-- the numbers below one more
pub range_more : (n : ℕ) → range_with_len 0 (suc n) ≡ range_with_len 0 n ++ (n ∷ [])
range_more n =
    let all_of : suc n - 0 ≡ suc n = omega arith in
    let last : suc n - 1 ≡ n = omega arith in
    let front : n - 0 ≡ n = omega arith in
    rw (all_of, last, front) at (range_with_len_last 0 (suc n) (omega arith))

-- a fold that joins a test of each number below n looks at all of them
module _ (test : ℕ → Bool) where
  abbrev joined : Bool → ℕ → Bool
  joined ok k = ok && test k

  all-joined : (n : ℕ) → fold joined true (range_with_len 0 n) ≡ all n test
  unfolding all
  all-joined zero = refl
  all-joined (suc n) =
      ap (fold joined true) (range_more n) ∙ fold_push joined true (range_with_len 0 n) n ∙ ap (λ ok. ok && test n) (all-joined n)

  pub all_from_fold : {F : Type 0} {g : Mut F (Bool × (ℕ × Unit {0})) Bool} {s : Range ℕ} (f : F) (n : ℕ) (r : Bool) → s ≡ record { start = 0; end = n }
      → (xs : List ℕ) × (f' : F) × Drains nat_range_steps s xs × FoldsTo {P = F × Bool} (λ p x q. Called g p.0 (p.1, (x, tt)) q.1 q.0) (f, true) xs (f', r)
      → ((a : Bool) (k : ℕ) (b : Bool) (f' : F) → Called g f (a, (k, tt)) b f' → (b ≡ (a && test k)) × (f' ≡ f))
      → r ≡ all n test
  all_from_fold {F} {g} {s} f n r e ran step =
      fold_over nat_range_steps (λ k. k) g (λ ks ok. ok ≡ fold joined true ks) f (λ ks a k b f' i h. let u = step a k b f' h in (u.0 ∙ ap (λ ok. ok && test k) i ∙ sym (fold_push joined true ks k), u.1)) s (range_with_len 0 n) true r (YieldsList-from_range 0 n n e (omega arith)).runs refl ran
      ∙ all-joined n
