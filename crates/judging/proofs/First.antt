-- Document 01, 'What comes back', the order of refusals: the first that applies is given, and 0 means that none does.
-- Assumes nothing.
use Prim.Native.Nat.{ℕ, ◌<◌}
use mathlib.Core.Path.{◌≡◌, refl}
use mathlib.Core.Bool.{Bool, true, false}
use mathlib.Core.List.{List, [], ◌∷◌, ◌++◌}
use native.Mathlib.Omega.{arith}
use Rattle.judging.specs.Answers.{Test, first}

pub none_left : first [] ≡ 0
unfolding first
none_left = refl

-- a test that applies gives its number
pub applies : (n : ℕ) (b : Bool) (ts : List Test) → b ≡ true → first ((n, b) ∷ ts) ≡ n
unfolding first
applies n b ts e = rw e

-- a test that does not apply leaves the answer to those behind it
pub passes : (n : ℕ) (b : Bool) (ts : List Test) → b ≡ false → first ((n, b) ∷ ts) ≡ first ts
unfolding first
passes n b ts e = rw e

-- tests in two parts: where the first part refuses, the second is not asked
pub stops : (ts us : List Test) → 0 < first ts → first (ts ++ us) ≡ first ts
unfolding first
stops [] us h = absurd (omega arith)
stops ((n, true) ∷ ts) us h = refl
stops ((n, false) ∷ ts) us h = stops ts us h

-- 0 means that a test does not apply, and that none behind it does
pub passed : (n : ℕ) (b : Bool) (ts : List Test) → 0 < n → first ((n, b) ∷ ts) ≡ 0 → (b ≡ false) × (first ts ≡ 0)
unfolding first
passed n true ts h e = absurd (omega arith)
passed n false ts h e = (refl, e)
