-- Document 01, 'What comes back', and document 02, requests 4, 5, 9 and 10: the answers and their numbers, and the first of several refusals that
-- applies.
-- Assumes nothing.
use Rattle.std.specs.Prelude.{ℕ, Bool, cond, List, [], ◌∷◌, Result, Ok, Err}
use Rattle.numbers.specs.declared.numbers.Unfit.{Unfit}
use Rattle.numbers.specs.declared.numbers.Unfit.TheVariants as unfit
use Rattle.judging.specs.declared.answers.Done.{Done}
use Rattle.judging.specs.declared.answers.Refusal.{Refusal}
use Rattle.judging.specs.declared.answers.Refusal.TheVariants as refused
use Rattle.judging.specs.declared.answers.Reported as code

-- ---- the table: each answer's number, and what it reports of a result

abbrev pub Answer : Type 0
Answer = Result Done Refusal

abbrev pub number_of : Refusal → ℕ
number_of refused.BadImage = 1
number_of refused.BadMarks = 2
number_of refused.BadFrame = 3
number_of refused.NoEntry = 4
number_of refused.TooShort = 5
number_of refused.NoRoom = 6
number_of refused.WrongMac = 7
number_of refused.OutsideWindow = 8
number_of refused.NumbersSpent = 10
number_of refused.TooLong = 11
number_of refused.WrongCheckField = 12
number_of refused.BadCommand = 13
number_of refused.UnknownSpi = 14
number_of refused.WrongState = 15
number_of refused.BadValue = 16
number_of refused.UnknownKey = 17
number_of refused.WrongKeyState = 18
number_of refused.WrongDesk = 19

-- an image and numbers that are not fit for a call refuse it
abbrev pub refusal_of : Unfit → Refusal
refusal_of unfit.BadImage = refused.BadImage
refusal_of unfit.BadMarks = refused.BadMarks

abbrev pub Reported : Type 0
Reported = code.Reported

-- a refusal reports length 0 and 0 stores
abbrev pub refusal : ℕ → Reported
refusal n = record { number = n; length = 0; stores = 0 }

abbrev pub granted : ℕ → ℕ → Reported
granted length stores = record { number = 0; length = length; stores = stores }

abbrev pub reported : Answer → Reported
reported (Ok done) = granted done.length done.stores
reported (Err r) = refusal (number_of r)

-- ---- the first that applies is given and no other; where none applies, the answer is 0

-- a refusal's number, and whether it applies
abbrev pub Test : Type 0
Test = ℕ × Bool

unfoldable pub first : List Test → ℕ
first [] = 0
first (t ∷ ts) = cond t.1 t.0 (first ts)
