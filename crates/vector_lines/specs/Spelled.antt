-- What the fields of a line of published vectors spell in hexadecimal.
-- Assumes nothing.
use Rattle.std.specs.Prelude.{ℕ, ◌-◌, ◌*◌, ◌/◌, Bool, ◌&&◌, List, ◌++◌, eqb, length, take, replicate}
use Rattle.lines.specs.Fields.{field_of}
use Rattle.lines.specs.Hexadecimal.{octets_of}

-- the first octets that field n of a line spells, at most so many
abbrev pub text_in : ℕ → ℕ → List ℕ → List ℕ
text_in most n line = take most (octets_of (field_of n line))

-- the same, and 0 behind them where there are fewer
unfoldable pub octets_in : ℕ → ℕ → List ℕ → List ℕ
octets_in room n line = text_in room n line ++ replicate (room - length (text_in room n line)) 0

-- field n spells octets, at most 96, and nothing else: it has two characters for each of them
abbrev pub whole_field : ℕ → List ℕ → Bool
whole_field n line = eqb (length (field_of n line)) (2 * length (text_in 96 n line))

-- it spells that many octets and nothing else
abbrev pub spelled_in : ℕ → ℕ → List ℕ → Bool
spelled_in count n line = whole_field n line && eqb (length (field_of n line) / 2) count

abbrev pub empty_field : ℕ → List ℕ → Bool
empty_field n line = eqb (length (field_of n line)) 0
