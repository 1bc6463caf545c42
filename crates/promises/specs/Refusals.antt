-- Demand 1: a refusal changes nothing. Whatever is handed in, a load, a sending or a check that does not answer 0 reports length 0 and 0
-- stores, and leaves the image, the numbers and the output as they were; and cut anywhere, it leaves the image as it was. It supposes
-- nothing.
-- Assumes nothing.
use Rattle.std.specs.Prelude.{ℕ, ◌≡◌, List, []}
use Rattle.link.specs.Calls.{Left, loaded, secured, secured_cut, checked, checked_cut}
use Rattle.judging.specs.Said.{Said}

pub record Untouched (image numbers output : List ℕ) (x : Left) : Type 0 where
  pub length : x.length ≡ 0
  pub stores : x.stores ≡ 0
  pub images : x.image ≡ image
  pub lasts : x.numbers ≡ numbers
  pub outputs : x.output ≡ output

-- a load has no output, and no store at which it could be cut
pub record Refusals : Type 0 where
  pub loading : (image numbers : List ℕ) → let x = loaded image numbers in
      (x.answer ≡ 0 → ⊥) → Untouched image numbers [] x
  pub sending : (image numbers : List ℕ) (said : Said) (spi : ℕ) (frame output : List ℕ)
      → let x = secured image numbers said spi frame output in
      (x.answer ≡ 0 → ⊥) → Untouched image numbers output x
  pub sending_cut : (image numbers : List ℕ) (said : Said) (spi : ℕ) (frame output : List ℕ) (j : ℕ)
      → let x = secured image numbers said spi frame output in
      (x.answer ≡ 0 → ⊥) → secured_cut image numbers said spi frame output j ≡ image
  pub checking : (image numbers : List ℕ) (said : Said) (frame output : List ℕ)
      → let x = checked image numbers said frame output in
      (x.answer ≡ 0 → ⊥) → Untouched image numbers output x
  pub checking_cut : (image numbers : List ℕ) (said : Said) (frame output : List ℕ) (j : ℕ)
      → let x = checked image numbers said frame output in
      (x.answer ≡ 0 → ⊥) → checked_cut image numbers said frame output j ≡ image
