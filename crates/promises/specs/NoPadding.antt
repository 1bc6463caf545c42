-- Document 02, request 8: no check is answered by 9, which was the number of a padding error and stays free, whatever it is given.
-- Assumes nothing.
use Rattle.std.specs.Prelude.{ℕ, ◌≡◌, List}
use Rattle.link.specs.Calls.{checked}
use Rattle.judging.specs.Said.{Said}

pub record NeverNine : Type 0 where
  pub checking : (image numbers : List ℕ) (said : Said) (frame output : List ℕ) → (checked image numbers said frame output).answer ≡ 9 → ⊥
