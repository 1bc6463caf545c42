-- The parts of a listing, as the code puts them one behind the other: a field, the next of the fields, the next number or none, and a line.
-- Assumes nothing.
use mathlib.Core.Path.{◌≡◌, ◌∙◌, refl, ap, sym}
use mathlib.Core.Bool.{true, false}
use mathlib.Core.List.{List, [], ◌∷◌, ◌++◌, append-nil, append_assoc}
use Prim.Native.Nat.{ℕ, ◌+◌, ◌*◌, ◌≤◌, ◌<◌}
use native.Mathlib.Numerals.{add-one}
use native.Mathlib.Omega.{arith}
use borrow.Author.Tests.{le-leb, lt-leb}
use lib.ListN.{length, take, drop, length-append, take-append-drop}
use lib.Seq.{take-suc}
use Rattle.octets.specs.Lists.{octet}
use Rattle.association.specs.Association.{entry_of}
use Rattle.image.specs.Image.{count_of, valid_image}
use Rattle.numbers.specs.Numbers.{greatest}
use Rattle.writing.specs.Text.{ascii, decimal}
use Rattle.listing_text.specs.Listing.{title, field, fields, next, line, lines, listing}

-- ---- fields

pub length-field : (n : ℕ) → length (field n) ≡ length (decimal n) + 1
unfolding field
length-field n = length-append (decimal n) (ascii " ")

fields-append : (a b : List ℕ) → fields (a ++ b) ≡ fields a ++ fields b
unfolding fields
fields-append [] b = refl
fields-append (n ∷ a) b = ap (λ (l : List ℕ). field n ++ l) (fields-append a b) ∙ sym (append_assoc (field n) (fields a) (fields b))

pub fields_more : (ns : List ℕ) (i : ℕ) → i < length ns → fields (take (i + 1) ns) ≡ fields (take i ns) ++ field (octet ns i)
unfolding fields
fields_more ns i inside =
    rw (add-one, take-suc ns i 0 inside)
    (fields-append (take i ns) (octet ns i ∷ []) ∙ ap (λ (l : List ℕ). fields (take i ns) ++ l) (append-nil (field (octet ns i))))

-- the first i + 1 of them are no longer than all
pub fields_within : (ns : List ℕ) (i : ℕ) → i < length ns → length (fields (take i ns)) + length (field (octet ns i)) ≤ length (fields ns)
fields_within ns i inside =
    let front : List ℕ = fields (take (i + 1) ns) in
    let rest : List ℕ = fields (drop (i + 1) ns) in
    let whole : fields ns ≡ front ++ rest =
    ap fields (sym (take-append-drop (i + 1) ns)) ∙ fields-append (take (i + 1) ns) (drop (i + 1) ns)
    in
    omega (
      arith,
      ap length whole ∙ length-append front rest,
      ap length (fields_more ns i inside) ∙ length-append (fields (take i ns)) (field (octet ns i)),
    )

-- ---- the next number

pub next-number : (mark : ℕ) → 64 * mark + 64 ≤ greatest → next mark ≡ decimal (64 * mark + 64)
unfolding next
next-number mark h = rw (le-leb (64 * mark + 64) greatest h)

pub next-none : (mark : ℕ) → greatest < 64 * mark + 64 → next mark ≡ ascii "none"
unfolding next
next-none mark h = rw (lt-leb (64 * mark + 64) greatest h)

-- ---- lines

pub lines_none : (image : List ℕ) → lines image 0 ≡ []
unfolding lines
lines_none image = refl

pub lines_more : (image : List ℕ) (i : ℕ) → lines image (i + 1) ≡ lines image i ++ line (entry_of image i)
unfolding lines
lines_more image i = rw add-one

-- ---- the listing

pub listing-valid : (image : List ℕ) → valid_image image ≡ true → listing image ≡ title ++ lines image (count_of image)
unfolding listing
listing-valid image e = rw e

pub listing-refused : (image : List ℕ) → valid_image image ≡ false → listing image ≡ ascii "refused 1\n"
unfolding listing
listing-refused image e = rw e
