-- Demand 1 for commands: a refusal changes nothing. A command that does not answer 0 reports length 0 and 0 stores, and leaves the image, the
-- numbers and the output as they were; and cut anywhere, it leaves the image as it was. It supposes nothing.
-- Assumes nothing.
use Rattle.std.specs.Prelude.{ℕ, ◌≡◌, List}
use Rattle.commands.specs.Commanding.{commanded, commanded_cut}
use Rattle.promises.specs.Refusals.{Untouched}

pub record CommandRefusals : Type 0 where
  pub whole : (image numbers : List ℕ) (desk : ℕ) (command output : List ℕ) → let x = commanded image numbers desk command output in
      (x.answer ≡ 0 → ⊥) → Untouched image numbers output x
  pub cut : (image numbers : List ℕ) (desk : ℕ) (command output : List ℕ) (j : ℕ)
      → ((commanded image numbers desk command output).answer ≡ 0 → ⊥) → commanded_cut image numbers desk command output j ≡ image
