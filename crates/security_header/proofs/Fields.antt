-- The field of a security header: a number of twelve octets, in words of four, and a header written into an array of the longest.
-- Assumes nothing.
use Prim.Native.Nat.{ℕ, ◌+◌, ◌-◌, ◌*◌, ◌/◌, ◌%◌, ◌^◌, ◌<◌}
use mathlib.Core.Path.{◌≡◌, refl, sym, ap, ap₂, ◌∙◌}
use mathlib.Core.Logic.{◌≢◌}
use mathlib.Core.List.{List, [], ◌∷◌, ◌++◌}
use native.Mathlib.Nat.{div-one, zero-add}
use native.Mathlib.Omega.{arith}
use borrow.Author.Tests.{eq-eqb, ne_eqb}
use lib.ListN.{drop, replicate}
use borrow.Rule.Slice.PartMut.{put_mid}
use lib.Seq.{drop-drop}
use Rattle.octets.specs.Numbers.{number, number_at, bytes}
use Rattle.octets.proofs.Numbers.{bytes-append, number-bytes}
use Rattle.octets.proofs.Reading.{number_at-add}
use Rattle.services.specs.SecurityHeader.{field_under, number_under}
use Rattle.services.specs.Services.{service, authentication, authenticated_encryption}
use Rattle.services.proofs.Chosen.{either}

pub three_words : (at : ℕ) (s : List ℕ)
    → number_at at 12 s ≡ (number_at at 4 s * 4294967296 + number_at (at + 4) 4 s) * 4294967296 + number_at (at + 8) 4 s
three_words at s = number_at-add at 8 4 s ∙ ap (λ (x : ℕ). x * 4294967296 + number_at (at + 8) 4 s) (number_at-add at 4 4 s)

-- two octets of an SPI at the front of fourteen, two that name the association in octets 4 and 5, and four of a number from a place on
abbrev pub made : ℕ → ℕ → ℕ → ℕ → List ℕ
made spi naming at n =
    put_mid at (at + 4 - at) (put_mid 4 2 ((spi / 256 % 256 ∷ spi % 256 ∷ []) ++ replicate 12 0) (naming / 256 % 256 ∷ naming % 256 ∷ []))
    (n / 16777216 % 256 ∷ n / 65536 % 256 ∷ n / 256 % 256 ∷ n % 256 ∷ [])

short_header : (spi naming n : ℕ) → made spi naming 2 n ≡ (bytes 2 spi ++ field_under authentication naming n) ++ replicate 8 0
unfolding bytes
short_header spi naming n = rw (div-one spi, div-one n)

-- zeros before a number that has no more octets than those behind them
four-octets : (x : ℕ) → x < 65536 → bytes 2 0 ++ bytes 2 x ≡ bytes 4 x
four-octets x h = sym (bytes-append 2 2 0 x h) ∙ ap (bytes 4) (zero-add x)

eight-octets : (x : ℕ) → x < 2 ^ 32 → bytes 4 0 ++ bytes 4 x ≡ bytes 8 x
eight-octets x h = sym (bytes-append 4 4 0 x h) ∙ ap (bytes 8) (zero-add x)

behind : (spi naming n : ℕ)
    → made spi naming 10 n ≡ (bytes 2 spi ++ ((bytes 2 0 ++ bytes 2 naming) ++ (bytes 4 0 ++ bytes 4 n))) ++ replicate 0 0
unfolding bytes
behind spi naming n = rw (div-one spi, div-one naming, div-one n)

long-header : (spi naming n : ℕ) → naming < 65536 → n < 2 ^ 32
    → made spi naming 10 n ≡ (bytes 2 spi ++ field_under authenticated_encryption naming n) ++ replicate 0 0
long-header spi naming n hm hn =
    behind spi naming n
    ∙ ap₂ (λ (a b : List ℕ). (bytes 2 spi ++ (a ++ b)) ++ replicate 0 0) (four-octets naming hm) (eight-octets n hn)

pub header_made : (number spi naming n : ℕ) → naming < 65536 → n < 2 ^ 32 → let s = service number in
    made spi naming (2 + s.field - 4) n ≡ (bytes 2 spi ++ field_under s naming n) ++ replicate (12 - s.field) 0
header_made number spi naming n hm hn =
    either (λ s. made spi naming (2 + s.field - 4) n ≡ (bytes 2 spi ++ field_under s naming n) ++ replicate (12 - s.field) 0)
    (short_header spi naming n) (long-header spi naming n hm hn) number

-- ---- the number that a field holds

module _ (naming : ℕ) (small : naming < 65536) (s : List ℕ) where
  read_back_lem : number 4 (bytes 4 naming) ≡ naming
  read_back_lem = number-bytes 4 naming (omega arith)

  pub read_named : number_at 2 4 s ≡ naming
      → number_under authenticated_encryption naming (drop 2 s) ≡ number_at 6 4 s * 4294967296 + number_at 10 4 s
  unfolding number_under
  read_named e = simp (read_back_lem, eq-eqb (number_at 2 4 s) naming e) (ap (number 8) (drop-drop 4 2 s) ∙ number_at-add 6 4 4 s)

  pub read_other : number_at 2 4 s ≢ naming → number_under authenticated_encryption naming (drop 2 s) ≡ 0
  unfolding number_under
  read_other h = simp (read_back_lem, ne_eqb (number_at 2 4 s) naming h)

pub read_short : (naming : ℕ) (field : List ℕ) → number_under authentication naming field ≡ number 4 field
unfolding number_under number
read_short naming field = refl
