-- Document 02, request 12: the image that is made of the octets of a damaged one, its kept entries laid out afresh by rising SPI.
-- Assumes nothing.
use Rattle.std.specs.Prelude.{ℕ, Bool, cond, ◌&&◌, ◌||◌, List, [], ◌∷◌, ◌++◌, eqb, leb, length}
use Rattle.octets.specs.Numbers.{bytes}
use Rattle.image.specs.Image.{version_of, count_of, most_entries, spi_of, layout, body_place}
use Rattle.writing.specs.Text.{end_to_end}
use Rattle.salvage_entries.specs.Kept.{body_there, kept_entries, old_index}

-- ---- what is refused: an input shorter than 2 octets or longer than the longest image, another version, or a count above 32

abbrev pub most_octets : ℕ
most_octets = 1794

unfoldable pub salvageable : List ℕ → Bool
salvageable x =
    leb 2 (length x)
    && leb (length x) most_octets
    && (eqb (version_of x) 1 || eqb (version_of x) 2)
    && leb (count_of x) most_entries

-- ---- the image

abbrev pub new_count : List ℕ → ℕ
new_count x = length (kept_entries x)

-- where the body of the entry with new index j comes to stand
abbrev pub new_place : List ℕ → ℕ → ℕ
new_place x j = body_place (layout x) (new_count x) j

unfoldable pub new_entry : List ℕ → ℕ → List ℕ
new_entry x j = bytes 2 (spi_of x (old_index x j)) ++ bytes 2 (new_place x j)

unfoldable pub new_body : List ℕ → ℕ → List ℕ
new_body x j = body_there x (old_index x j)

-- version, count, contents, bodies
unfoldable pub new_image : List ℕ → List ℕ
new_image x = version_of x ∷ new_count x ∷ (end_to_end (new_count x) (new_entry x) ++ end_to_end (new_count x) (new_body x))

-- ---- what comes out: of a refused input no image

unfoldable pub salvaged_image : List ℕ → List ℕ
salvaged_image x = cond (salvageable x) (new_image x) []
