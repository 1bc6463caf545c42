-- Document 02, request 11, in octets: what a check with each answer, and what an alarm reset, leave of the four octets of a report. Above C0
-- the first of them has 8 for the alarm, 4 for a bad number, 2 for a bad MAC and 1 for a bad association.
-- Assumes nothing.
use Rattle.std.specs.Prelude.{◌≡◌, ◌⊎◌, List, [], ◌∷◌, ◌++◌, ℕ, ◌+◌, ◌*◌, ◌/◌, ◌%◌, drop}
use Rattle.octets.specs.Lists.{octet}
use Rattle.octets.specs.Numbers.{bytes}

-- behind the first octet: the frame's SPI and the low octet of a number
abbrev pub telling : ℕ → ℕ → ℕ → List ℕ
telling first spi number = first ∷ (bytes 2 spi ++ (number ∷ []))

pub record Renewed (before after : List ℕ) (answer spi number : ℕ) : Type 0 where
  -- done: the alarm stays as it was
  pub done : answer ≡ 0 → after ≡ telling (0xC0 + 8 * (octet before 0 / 8 % 2)) spi number
  -- only the alarm changes
  pub unread : (answer ≡ 1) ⊎ ((answer ≡ 2) ⊎ ((answer ≡ 3) ⊎ (answer ≡ 12))) → after ≡ ((0xC8 + octet before 0 % 8) ∷ drop 1 before)
  pub association : answer ≡ 4 → after ≡ telling 0xC9 spi 0
  pub other : (answer ≡ 5) ⊎ (answer ≡ 6) → after ≡ telling 0xC8 spi number
  pub mac : answer ≡ 7 → after ≡ telling 0xCA spi number
  pub window : answer ≡ 8 → after ≡ telling 0xCC spi number

abbrev pub Reset : List ℕ → List ℕ → Type 0
Reset before after = after ≡ ((0xC0 + octet before 0 % 8) ∷ drop 1 before)
