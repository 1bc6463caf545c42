-- The parts of a line, as the code puts them one behind the other; and how long the lines can be: 32 of 11 octets.
-- Assumes nothing.
use mathlib.Core.Path.{◌≡◌, refl, ap}
use mathlib.Core.Bool.{Bool, true, false}
use mathlib.Core.List.{List, []}
use Prim.Native.Nat.{ℕ, ◌+◌, ◌≤◌, ◌<◌}
use native.Mathlib.Omega.{arith}
use lib.Dec.{eqb, ltb}
use lib.ListN.{length, length-append}
use Rattle.image.specs.Image.{count_of, spi_of}
use Rattle.salvage_entries.specs.Kept.{is_kept, new_index}
use Rattle.std.specs.List.{list_any, count_by}
use Rattle.salvage_image.specs.KeptOf.{KeptOf}
use Rattle.salvage_image.specs.Salvage.{salvageable}
use Rattle.writing.proofs.Ends.{end_short}
use Rattle.salvage_image.proofs.Sizes.{Taken, taken}
use Rattle.writing.specs.Text.{ascii, decimal}
use Rattle.writing.proofs.Decimals.{digits_short}
use Rattle.salvage_lines.specs.Lines.{line_about, stays, line_of, new_lines, salvage_lines}

-- ---- what the code knows of the kept entries

module _ (x kept : List ℕ) (k : KeptOf x kept) where
  pub new_is : (i : ℕ) → count_by (λ h. ltb (spi_of x h) (spi_of x i)) kept ≡ new_index x i
  new_is i = ap (λ (l : List ℕ). count_by (λ h. ltb (spi_of x h) (spi_of x i)) l) k.is

  pub among_is : (i : ℕ) → list_any (λ h. eqb h i) kept ≡ is_kept x i
  among_is i = ap (λ (l : List ℕ). list_any (λ h. eqb h i) l) k.is

-- ---- a line

pub length_about : (what : List ℕ) (i : ℕ) → length (line_about what i) ≡ length what + length (decimal i) + 1
unfolding line_about
length_about what i = simp length-append

pub line-dropped : (x : List ℕ) (i : ℕ) → is_kept x i ≡ false → line_of x i ≡ line_about (ascii "dropped ") i
unfolding line_of
line-dropped x i d = rw d

pub line_moved : (x : List ℕ) (i : ℕ) → is_kept x i ≡ true → stays x i ≡ false → line_of x i ≡ line_about (ascii "moved ") i
unfolding line_of
line_moved x i k s = rw (k, s)

pub line-none : (x : List ℕ) (i : ℕ) → is_kept x i ≡ true → stays x i ≡ true → line_of x i ≡ []
unfolding line_of
line-none x i k s = rw (k, s)

-- ---- how long they are

line_short : (x : List ℕ) (i : ℕ) → i < 32 → length (line_of x i) ≤ 11
line_short x i h = by_tests (is_kept x i) refl (stays x i) refl
  where
    digits : length (decimal i) ≤ 2
    digits = digits_short 1 10 i (omega arith)

    by_tests : (k : Bool) → is_kept x i ≡ k → (s : Bool) → stays x i ≡ s → length (line_of x i) ≤ 11
    by_tests false e s d = rw (line-dropped x i e) (omega (arith, length_about (ascii "dropped ") i, digits))
    by_tests true e false d = rw (line_moved x i e d) (omega (arith, length_about (ascii "moved ") i, digits))
    by_tests true e true d = rw (line-none x i e d) (omega arith)

pub lines_short : (x : List ℕ) → Taken x → length (new_lines x) ≤ 352
lines_short x ok =
    omega (arith, end_short 11 (count_of x) (line_of x) (λ i h. line_short x i (omega (arith, ok.count))), ok.count)

-- ---- what comes out

pub lines_taken : (x : List ℕ) → salvageable x ≡ true → salvage_lines x ≡ new_lines x
unfolding salvage_lines
lines_taken x e = rw e

pub lines-refused : (x : List ℕ) → salvageable x ≡ false → salvage_lines x ≡ ascii "refused 1\n"
unfolding salvage_lines
lines-refused x e = rw e

pub longest_lines : (x : List ℕ) → length (salvage_lines x) ≤ 352
longest_lines x = by_test (salvageable x) refl
  where
    by_test : (t : Bool) → salvageable x ≡ t → length (salvage_lines x) ≤ 352
    by_test true e = rw (lines_taken x e) (lines_short x (taken x e))
    by_test false e = rw (lines-refused x e) (omega arith)
