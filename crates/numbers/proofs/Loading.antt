-- A load, one entry at a time: after i entries the numbers of the first i are theirs, and the others are 0.
--     loading-none, loading_more, loading-all     before the first entry; an entry more; at the end
-- Assumes nothing.
use mathlib.Core.Path.{◌≡◌, sym, ◌∙◌}
use mathlib.Core.Bool.{cond}
use mathlib.Core.List.{List}
use Prim.Native.Nat.{ℕ, ◌+◌, ◌<◌}
use native.Mathlib.Decide.{ℕ_discrete, dec_lt}
use native.Mathlib.Omega.{arith}
use borrow.Author.Tests.{lt-ltb, le-ltb}
use lib.Dec.{ltb}
use lib.ListN.{length, set, replicate, length-set, length-replicate, get_or-replicate}
use lib.Seq.{ext_get_or, get_or-set_same, get_or-set_other}
use Rattle.octets.specs.Lists.{tab}
use Rattle.octets.proofs.Rules.{length-tab, octet-tab}
use Rattle.image.specs.Image.{count_of}
use Rattle.image.specs.Image.{mark_in}
use Rattle.numbers.specs.Numbers.{number_of, loaded_number, loaded_numbers}

-- the number of entry j when i entries are loaded
abbrev loaded_of : List ℕ → ℕ → ℕ → ℕ
loaded_of image i j = cond (ltb j i) (loaded_number (mark_in image j)) 0

pub record Loading (image last : List ℕ) (i : ℕ) : Type 0 where
  pub long : length last ≡ 32
  pub number : (j : ℕ) → j < 32 → number_of last j ≡ loaded_of image i j

pub loading-none : (image : List ℕ) → Loading image (replicate 32 0) 0
loading-none image =
    record { long = length-replicate {A = ℕ} 32 0; number = λ j h. get_or-replicate 32 j 0 0 h ∙ sym (simp (le-ltb j 0 (omega arith))) }

pub loading_more : (image last : List ℕ) (i : ℕ) → i < 32 → Loading image last i
    → Loading image (set last i (loaded_number (mark_in image i))) (i + 1)
loading_more image last i h loading =
    record { long = length-set last i (loaded_number (mark_in image i)) ∙ loading.long; number = λ j l. by_place j l (ℕ_discrete j i) }
  where
    after : List ℕ
    after = set last i (loaded_number (mark_in image i))

    same : (j : ℕ) → (j ≡ i → ⊥) → Dec (j < i) → loaded_of image i j ≡ loaded_of image (i + 1) j
    same j other (yes l) = simp (lt-ltb j i l, lt-ltb j (i + 1) (omega arith))
    same j other (no g) = simp (le-ltb j i (omega arith), le-ltb j (i + 1) (omega arith))

    by_place : (j : ℕ) → j < 32 → Dec (j ≡ i) → number_of after j ≡ loaded_of image (i + 1) j
    by_place j l (yes e) =
        let loaded : loaded_of image (i + 1) i ≡ loaded_number (mark_in image i) = simp (lt-ltb i (i + 1) (omega arith)) in
        rw e (get_or-set_same last i (loaded_number (mark_in image i)) 0 (omega (arith, loading.long)) ∙ sym loaded)
    by_place j l (no other) =
        get_or-set_other last i j (loaded_number (mark_in image i)) 0 other ∙ loading.number j l ∙ same j other (dec_lt j i)

pub loading-all : (image last : List ℕ) → Loading image last (count_of image) → last ≡ loaded_numbers image
unfolding loaded_numbers
loading-all image last loading =
    let rule : ℕ → ℕ = loaded_of image (count_of image) in
    ext_get_or 0 last (tab 32 rule) (loading.long ∙ sym (length-tab 32 rule))
    (λ j h. let within : j < 32 = omega (arith, loading.long) in loading.number j within ∙ sym (octet-tab 32 rule j within))
