-- Document 01, 'The listing program': the text that the program writes for an image.
-- Assumes nothing.
use Rattle.std.specs.Prelude.{ℕ, zero, suc, ◌+◌, ◌*◌, cond, List, [], ◌∷◌, ◌++◌, leb}
use Rattle.association.specs.Association.{entry_of}
use Rattle.image.specs.Image.{count_of, valid_image}
use Rattle.numbers.specs.Numbers.{greatest}
use Rattle.association.specs.declared.entry.Entry.{Entry}
use Rattle.writing.specs.Text.{ascii, decimal}

abbrev pub title : List ℕ
title = ascii "spi service kind direction state window next\n"

-- fields are one space apart
unfoldable pub field : ℕ → List ℕ
field n = decimal n ++ ascii " "

-- each number and the space behind it
unfoldable pub fields : List ℕ → List ℕ
fields [] = []
fields (n ∷ ns) = field n ++ fields ns

-- the next number that may be sent, 64m + 64, or none where that exceeds the greatest
unfoldable pub next : ℕ → List ℕ
next mark = cond (leb (64 * mark + 64) greatest) (decimal (64 * mark + 64)) (ascii "none")

-- the numbers of a line before that, in the title's order
abbrev pub columns : Entry → List ℕ
columns e = e.spi ∷ e.service ∷ e.kind ∷ e.direction ∷ e.state ∷ e.window ∷ []

unfoldable pub line : Entry → List ℕ
line e = fields (columns e) ++ next e.mark ++ ascii "\n"

-- the lines of the first n entries, in order
unfoldable pub lines : List ℕ → ℕ → List ℕ
lines image zero = []
lines image (suc n) = lines image n ++ line (entry_of image n)

unfoldable pub listing : List ℕ → List ℕ
listing image = cond (valid_image image) (title ++ lines image (count_of image)) (ascii "refused 1\n")
