-- Request 12 of document 02: what is promised of salvage, for any octets whatever. An input is refused for the four reasons of the paper and
-- no other. Of any other input the new image is valid; there is an account of what became of each entry, dropped or kept at a new index, by
-- which exactly the entries are kept that the paper says, in contents order; each keeps its SPI and its body, so its mark; nothing else is in
-- the new image; and the lines are those of that account. A valid image of version 1 or 2 comes back octet for octet, with no line.
-- Assumes nothing.
use Rattle.std.specs.Prelude.{ℕ, ◌+◌, ◌*◌, ◌≤◌, ◌<◌, ◌≡◌, cond, ◌&&◌, List, [], ◌++◌, eqb, length}
use Rattle.octets.specs.Lists.{part, Octets}
use Rattle.octets.specs.Numbers.{number_at}
use Rattle.writing.specs.Text.{ascii, decimal, end_to_end}
use Rattle.salvage_image.specs.Salvage.{salvaged_image}
use Rattle.salvage_lines.specs.Lines.{salvage_lines}
use Rattle.promises.specs.Images.{version_in, count_in, spi_at, position_at, place, whole_body_at, code_at, BodyRules, ImageRules}

-- ---- what is not refused

pub record Accepted (x : List ℕ) : Type 0 where
  pub size : (2 ≤ length x) × (length x ≤ 1794)
  pub version : (1 ≤ version_in x) × (version_in x ≤ 2)
  pub count : count_in x ≤ 32

-- ---- what becomes of an entry

pub data Fate : Type 0 where
  dropped : Fate
  kept_as : ℕ → Fate

-- what is asked of entry i beside those before it: it is whole, its SPI is allowed and of no kept entry, its position is the place of one of
-- the k bodies, inside the input and of no kept entry, and the body there obeys the rules
pub record Keepable (x : List ℕ) (fate : ℕ → Fate) (i : ℕ) : Type 0 where
  pub whole : 2 + 4 * i + 4 ≤ length x
  pub spi : (1 ≤ spi_at x i) × (spi_at x i ≤ 65534)
  pub spi_new : (h j : ℕ) → h < i → fate h ≡ kept_as j → spi_at x h ≡ spi_at x i → ⊥
  pub place : (t : ℕ) × (t < count_in x) × (position_at x i ≡ place x t 0) × (place x t 52 ≤ length x) × BodyRules x t
  pub place_free : (h j : ℕ) → h < i → fate h ≡ kept_as j → position_at x h ≡ position_at x i → ⊥

-- entry i of the input is entry j of the new image: the SPI, the body octet for octet, and so the mark
pub record KeptAs (x : List ℕ) (i : ℕ) (y : List ℕ) (j : ℕ) : Type 0 where
  pub entry : j < count_in y
  pub spi : spi_at y j ≡ spi_at x i
  pub body : whole_body_at y j ≡ part (position_at x i) 52 x
  pub mark : code_at y j ≡ number_at (position_at x i + 48) 4 x

-- the line about entry i: none where index and position are the old ones
unfoldable pub line_for : List ℕ → List ℕ → ℕ → Fate → List ℕ
line_for x y i dropped = ascii "dropped " ++ decimal i ++ ascii "\n"
line_for x y i (kept_as j) =
    cond (eqb j i && eqb (position_at y j) (position_at x i)) [] (ascii "moved " ++ decimal i ++ ascii "\n")

pub record Account (x y text : List ℕ) (fate : ℕ → Fate) : Type 0 where
  pub keeps : (i : ℕ) → i < count_in x → Keepable x fate i → (j : ℕ) × (fate i ≡ kept_as j)
  pub asked : (i j : ℕ) → fate i ≡ kept_as j → (i < count_in x) × Keepable x fate i
  pub kept : (i j : ℕ) → fate i ≡ kept_as j → KeptAs x i y j
  pub from : (j : ℕ) → j < count_in y → (i : ℕ) × (fate i ≡ kept_as j)
  pub lines : text ≡ end_to_end (count_in x) (λ i. line_for x y i (fate i))

-- ---- the promise

pub record Salvaging : Type 0 where
  pub refused : (x : List ℕ) → (Accepted x → ⊥) → (salvaged_image x ≡ []) × (salvage_lines x ≡ ascii "refused 1\n")
  pub version : (x : List ℕ) → Accepted x → version_in (salvaged_image x) ≡ version_in x
  pub valid : (x : List ℕ) → Octets x → Accepted x → ImageRules (salvaged_image x)
  pub account : (x : List ℕ) → Octets x → Accepted x → (fate : ℕ → Fate) × Account x (salvaged_image x) (salvage_lines x) fate
  pub untouched : (x : List ℕ) → Octets x → ImageRules x → version_in x ≤ 2 → (salvaged_image x ≡ x) × (salvage_lines x ≡ [])
