-- No listing is longer than 1,197 octets: a title of 45, and at most 32 lines of at most 36.
-- Assumes nothing.
use mathlib.Core.Path.{◌≡◌, refl}
use mathlib.Core.Bool.{Bool, true, false, cond}
use mathlib.Core.List.{List, [], ◌∷◌, ◌++◌}
use Prim.Native.Nat.{ℕ, zero, suc, ◌+◌, ◌*◌, ◌/◌, ◌%◌, ◌^◌, ◌≤◌, ◌<◌}
use native.Mathlib.Decide.{dec_lt}
use native.Mathlib.Omega.{arith}
use lib.Dec.{ltb}
use lib.ListN.{length, take, drop, length-append}
use lib.Seq.{take-append_seam}
use Rattle.octets.specs.Output.{fronted}
use Rattle.association.specs.Association.{entry_of}
use Rattle.image.specs.Image.{count_of, valid_image}
use Rattle.numbers.specs.Numbers.{greatest}
use Rattle.image.proofs.ValidImages.{Valid, valid}
use Rattle.listing_text.specs.Listing.{title, field, fields, next, line, lines, listing}
use Rattle.std.specs.Prelude.{unwrap_or}
use Rattle.writing.specs.Output.{written_to}
use Rattle.writing.specs.Text.{digits}
use Rattle.writing.proofs.Decimals.{digits_short}
use Rattle.listing_text.proofs.Parts.{length-field, next-number, next-none, listing-valid, listing-refused}
use Rattle.writing.proofs.Puts.{all-written}

field_short : (k n : ℕ) → n < 10 ^ suc k → length (field n) ≤ k + 2
field_short k n small = omega (arith, length-field n, digits_short k 10 n small)

-- whatever the number, which has at most ten digits: the window of a body that is not operational may be any
digits-most : (most n : ℕ) → length (digits most n) ≤ most
unfolding digits
digits-most zero n = omega arith
digits-most (suc most) n = by_size (ltb n 10) (digits-most most (n / 10))
  where
    by_size : (t : Bool) → length (digits most (n / 10)) ≤ most → length (cond t [] (digits most (n / 10)) ++ ((48 + n % 10) ∷ [])) ≤ suc most
    by_size true h = omega arith
    by_size false h = simp length-append (omega arith)

field-most : (n : ℕ) → length (field n) ≤ 11
field-most n = omega (arith, length-field n, digits-most 10 n)

next_short : (mark : ℕ) → length (next mark) ≤ 10
next_short mark = by_size (dec_lt greatest (64 * mark + 64))
  where
    by_size : Dec (greatest < 64 * mark + 64) → length (next mark) ≤ 10
    by_size (yes over) = rw (next-none mark over) (omega arith)
    by_size (no fits) = rw (next-number mark (omega arith)) (digits_short 9 10 (64 * mark + 64) (omega arith))

-- a line of an entry that keeps the rules
line_short : (image : List ℕ) → Valid image → (i : ℕ) → i < count_of image → length (line (entry_of image i)) ≤ 36
unfolding line fields entry_of
line_short image v i inside =
    let e = v.entry i inside in
    simp length-append
    (omega (
      arith,
      field_short 4 (entry_of image i).spi (omega arith),
      field_short 0 (entry_of image i).service (omega arith),
      field_short 0 (entry_of image i).kind (omega arith),
      field_short 0 (entry_of image i).direction (omega arith),
      field_short 0 (entry_of image i).state (omega arith),
      field-most (entry_of image i).window,
      next_short (entry_of image i).mark,
    ))

lines_short : (image : List ℕ) → Valid image → (n : ℕ) → n ≤ count_of image → length (lines image n) ≤ 36 * n
unfolding lines
lines_short image v zero h = omega arith
lines_short image v (suc n) h =
    simp length-append (omega (arith, lines_short image v n (omega arith), line_short image v n (omega arith)))

pub line_fits : (image : List ℕ) → valid_image image ≡ true → (i : ℕ) → i < count_of image
    → length title + length (lines image i) + length (line (entry_of image i)) ≤ 1197
line_fits image ok i inside =
    let v : Valid image = valid image ok in
    let most : count_of image ≤ 32 = v.laid.count in
    omega (arith, lines_short image v i (omega arith), line_short image v i inside)

pub longest : (image : List ℕ) → length (listing image) ≤ 1197
longest image = by_test (valid_image image) refl
  where
    by_test : (t : Bool) → valid_image image ≡ t → length (listing image) ≤ 1197
    by_test true e =
        let v : Valid image = valid image e in
        let most : count_of image ≤ 32 = v.laid.count in
        rw (listing-valid image e) (simp length-append (omega (arith, lines_short image v (count_of image) (omega arith))))
    by_test false e = rw (listing-refused image e) (omega arith)

-- an output of that many octets holds, whatever the image, its listing and nothing else
pub printed : (image out : List ℕ) → 1197 ≤ length out
    → take (unwrap_or (written_to (listing image) out) 0) (fronted (listing image) out) ≡ listing image
printed image out room =
    let fits : length (listing image) ≤ length out = omega (arith, longest image) in
    rw (← (all-written (listing image) out fits).0, ← (all-written (listing image) out fits).1)
    (take-append_seam (listing image) (drop (length (listing image)) out))
