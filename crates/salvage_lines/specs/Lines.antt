-- Document 02, request 12: the lines that say what became of the entries of a damaged image.
-- Assumes nothing.
use Rattle.std.specs.Prelude.{ℕ, Bool, cond, ◌&&◌, List, [], ◌++◌, eqb}
use Rattle.image.specs.Image.{count_of, position_of}
use Rattle.salvage_entries.specs.Kept.{is_kept, new_index}
use Rattle.writing.specs.Text.{end_to_end, ascii, decimal}
use Rattle.salvage_image.specs.Salvage.{salvageable, new_place}

unfoldable pub line_about : List ℕ → ℕ → List ℕ
line_about what i = what ++ decimal i ++ ascii "\n"

-- a kept entry has its old index and its old position
unfoldable pub stays : List ℕ → ℕ → Bool
stays x i = eqb (new_index x i) i && eqb (new_place x (new_index x i)) (position_of x i)

unfoldable pub line_of : List ℕ → ℕ → List ℕ
line_of x i = cond (is_kept x i) (cond (stays x i) [] (line_about (ascii "moved ") i)) (line_about (ascii "dropped ") i)

abbrev pub new_lines : List ℕ → List ℕ
new_lines x = end_to_end (count_of x) (line_of x)

unfoldable pub salvage_lines : List ℕ → List ℕ
salvage_lines x = cond (salvageable x) (new_lines x) (ascii "refused 1\n")
