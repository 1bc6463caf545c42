-- What the judging functions find, for their contracts. No definition of a command cites this file, and no promise does.
-- Assumes nothing.
use Rattle.std.specs.Prelude.{ℕ, ◌≡◌, Result, Ok, Err}
use Rattle.judging.specs.Verdicts.{Refuses}
use Rattle.judging.specs.declared.answers.Refusal.{Refusal}

-- by the answer of the tests and the length of the reply
abbrev pub Ruled : Result ℕ Refusal → ℕ → ℕ → Type 0
Ruled (Ok size) answer length = (answer ≡ 0) × (size ≡ length)
Ruled (Err r) answer length = Refuses r answer
