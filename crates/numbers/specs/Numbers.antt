-- Document 01, 'Managed numbers': what a load gives, when numbers agree with the marks, and which numbers may follow.
-- Assumes nothing.
use Rattle.std.specs.Prelude.{ℕ, ◌+◌, ◌*◌, ◌/◌, Bool, cond, ◌&&◌, List, eqb, leb, ltb, get_or, Result, Ok, Err, ⊤}
use Rattle.octets.specs.Lists.{tab, all}
use Rattle.image.specs.Image.{count_of, most_entries, mark_in, valid_image}
use Rattle.numbers.specs.declared.numbers.Unfit.{Unfit}
use Rattle.numbers.specs.declared.numbers.Unfit.TheVariants as unfit

-- the greatest that a number may be
abbrev pub greatest : ℕ
greatest = 4294967295

-- the number of entry i; there is one for each entry that an image may have
abbrev pub number_of : List ℕ → ℕ → ℕ
number_of last i = get_or last i 0

-- ---- load

-- the number that a load gives for a mark
abbrev pub loaded_number : ℕ → ℕ
loaded_number mark = 64 * mark + 63

unfoldable pub loaded_numbers : List ℕ → List ℕ
loaded_numbers image = tab most_entries (λ i. cond (ltb i (count_of image)) (loaded_number (mark_in image i)) 0)

-- ---- agreement, answer 2: for each entry, last / 64 rounded down is its mark

unfoldable pub agrees : List ℕ → List ℕ → Bool
agrees image last = all (count_of image) (λ i. eqb (number_of last i / 64) (mark_in image i))

-- ---- what comes back: fit for a call, answer 0, or not, answers 1 and 2

-- what a load answers, and the numbers that it returns
abbrev pub load_standing : List ℕ → Result ⊤ Unfit
load_standing image = cond (valid_image image) (Ok tt) (Err unfit.BadImage)

abbrev pub load_numbers : List ℕ → List ℕ → List ℕ
load_numbers image last = cond (valid_image image) (loaded_numbers image) last

-- what sending and checking test first
abbrev pub standing_of : List ℕ → List ℕ → Result ⊤ Unfit
standing_of image last = cond (valid_image image) (cond (agrees image last) (Ok tt) (Err unfit.BadMarks)) (Err unfit.BadImage)

-- ---- the number of a frame

-- checking accepts n after `last`, over whole numbers: no wrap
abbrev pub accepts : ℕ → ℕ → ℕ → Bool
accepts last window n = ltb last n && leb n (last + window) && leb n greatest

-- sending has none left
abbrev pub spent : ℕ → Bool
spent last = leb greatest last
