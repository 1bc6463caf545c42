-- What the answer of the first test says: the image breaks a rule, or it keeps all and the numbers do not agree, or both hold.
-- Assumes nothing.
use Prim.Native.Nat.{ℕ}
use mathlib.Core.Path.{◌≡◌, refl, ap, ◌∙◌}
use mathlib.Core.Bool.{Bool, true, false, cond, not}
use mathlib.Core.List.{List, ◌∷◌}
use native.Mathlib.Omega.{arith}
use Rattle.std.specs.Prelude.{Result, Ok, Err, IsErrAnd, ⊤}
use Rattle.image.specs.Image.{valid_image}
use Rattle.numbers.specs.Numbers.{agrees, load_standing, standing_of}
use Rattle.numbers.specs.declared.numbers.Unfit.{Unfit}
use Rattle.numbers.specs.declared.numbers.Unfit.TheVariants as unfit
use Rattle.judging.specs.Answers.{number_of, refusal_of, Test, first}
use Rattle.judging.specs.Verdicts.{Refuses}
use Rattle.judging.specs.declared.answers.Refusal.{Refusal}

abbrev of : Bool → Bool → Result ⊤ Unfit
of v a = cond v (cond a (Ok tt) (Err unfit.BadMarks)) (Err unfit.BadImage)

holds : (v a : Bool) → of v a ≡ Ok tt → (v ≡ true) × (a ≡ true)
holds true true e = (refl, refl)
holds true false e = absurd cc
holds false a e = absurd cc

breaks : (v : Bool) (u : Unfit) → of v true ≡ Err u → (v ≡ false) × (u ≡ unfit.BadImage)
breaks true u e = absurd cc
breaks false u e = (refl, cc)

refused_by : (v a : Bool) (u : Unfit) (r : Refusal) (ts : List Test) → of v a ≡ Err u → r ≡ refusal_of u
    → Refuses r (first ((1, not v) ∷ (2, not a) ∷ ts))
unfolding first
refused_by true true u r ts e is = absurd cc
refused_by true false u r ts e is =
    let which : u ≡ unfit.BadMarks = cc in
    record { answer = ap number_of is ∙ ap (λ (x : Unfit). number_of (refusal_of x)) which; some = omega arith }
refused_by false a u r ts e is =
    let which : u ≡ unfit.BadImage = cc in
    record { answer = ap number_of is ∙ ap (λ (x : Unfit). number_of (refusal_of x)) which; some = omega arith }

module _ (image last : List ℕ) where
  pub standing_well : standing_of image last ≡ Ok tt → (valid_image image ≡ true) × (agrees image last ≡ true)
  standing_well e = holds (valid_image image) (agrees image last) e

  -- where they are not fit, it is the first two tests that refuse
  pub unfit_refuses : (u : Unfit) (r : Refusal) (ts : List Test) → standing_of image last ≡ Err u → r ≡ refusal_of u
      → Refuses r (first ((1, not (valid_image image)) ∷ (2, not (agrees image last)) ∷ ts))
  unfit_refuses u r ts e is = refused_by (valid_image image) (agrees image last) u r ts e is

  -- and where `?` passes it on, so does the function that tests them
  pub unfit_passed : {A : Type 0} (P : Result A Refusal → Type 0) (result : Result A Refusal) (u : Unfit) (ts : List Test)
      → ((r : Refusal) → Refuses r (first ((1, not (valid_image image)) ∷ (2, not (agrees image last)) ∷ ts)) → P (Err r))
      → standing_of image last ≡ Err u
      → IsErrAnd result (λ r. r ≡ refusal_of u)
      → P result
  unfit_passed P (Ok x) u ts gives e is = absurd is
  unfit_passed P (Err r) u ts gives e is = gives r (unfit_refuses u r ts e is)

-- a load gives two of them: there the numbers are not asked
module _ (image : List ℕ) where
  pub load_broken : (u : Unfit) → load_standing image ≡ Err u → (valid_image image ≡ false) × (u ≡ unfit.BadImage)
  load_broken u e = breaks (valid_image image) u e

  pub load_well : load_standing image ≡ Ok tt → valid_image image ≡ true
  load_well e = (holds (valid_image image) true e).0
