-- The paper's own lines, and the places where a listing changes: computed from the definitions.
-- Assumes nothing.
use mathlib.Core.Path.{◌≡◌, refl}
use mathlib.Core.List.{List, [], ◌∷◌, ◌++◌}
use Prim.Native.Nat.{ℕ}
use lib.ListN.{replicate}
use Rattle.octets.specs.Lists.{tab, part, all}
use Rattle.octets.specs.Numbers.{number}
use Rattle.kinds.specs.Kinds.{named}
use Rattle.association.specs.Association.{entry_of}
use Rattle.bodies.specs.Body.{body_in, body_ok}
use Rattle.bodies.specs.Layout.{layout_of}
use Rattle.keys.specs.Keys.{key_part_ok}
use Rattle.marks.specs.Gray.{decoded}
use Rattle.image.specs.Image.{body_at, body_of, part_at, key_count, image_size, laid_out, entry_ok, keys_ok, valid_image, mark_in}
use Rattle.writing.specs.Text.{ascii, digits, decimal}
use Rattle.listing_text.specs.Listing.{field, fields, next, line, lines, listing}

-- version and count; SPI 9 and its body's position; the body up to the window, 100; mask, key and mark, all 0
case_b : List ℕ
case_b =
    (1 ∷ 1 ∷ [])
    ++ (0 ∷ 9 ∷ 0 ∷ 6 ∷ [])
    ++ (1 ∷ 1 ∷ 1 ∷ 2 ∷ 0 ∷ 27 ∷ 5 ∷ 0 ∷ 0 ∷ 100 ∷ [])
    ++ replicate 42 0

case_b_lem : listing case_b ≡ ascii "spi service kind direction state window next\n9 1 1 1 2 100 64\n"
unfolding case_b listing lines line next fields field digits entry_of valid_image laid_out image_size entry_ok body_ok body_of body_in body_at part_at key_count keys_ok layout_of mark_in named decoded
    number part tab all
case_b_lem = refl

-- case A: no entry, and so no line but the title
case_a : listing (1 ∷ 0 ∷ []) ≡ ascii "spi service kind direction state window next\n"
unfolding listing lines valid_image laid_out image_size part_at key_count keys_ok layout_of all
case_a = refl

-- the smallest image of version 3: no entry but the key part's, and no key
version-three : listing (3 ∷ 0 ∷ 255 ∷ 255 ∷ 0 ∷ 6 ∷ 0 ∷ []) ≡ ascii "spi service kind direction state window next\n"
unfolding listing lines valid_image laid_out image_size part_at key_count keys_ok key_part_ok layout_of number all
version-three = refl

no_octets : listing [] ≡ ascii "refused 1\n"
unfolding listing valid_image laid_out image_size part_at key_count keys_ok layout_of
no_octets = refl

-- the greatest mark that leaves a number, and the one that leaves none (case K)
last_number : next 67108862 ≡ ascii "4294967232"
unfolding next digits
last_number = refl

after_the_greatest : next 67108863 ≡ ascii "none"
unfolding next
after_the_greatest = refl

zero-is_a_digit : decimal 0 ≡ ascii "0"
unfolding digits
zero-is_a_digit = refl
