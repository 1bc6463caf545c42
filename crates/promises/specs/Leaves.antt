-- What a call that is done leaves. Under an entry with the frame's SPI, a sending or a check that answers 0 leaves a valid image in which
-- no octet outside that entry's mark differs, the mark of the number that it used, as many stores as the mark rose, at most 16, numbers
-- that agree and differ in that entry alone, and its result at the start of the output, whose rest stays. A sending uses last + 1, and
-- what goes out is the secured frame with that number; a check uses the number on the frame, and what comes out is its data in clear. Cut
-- after j stores, a call leaves the mark raised by j, or by all of them if there are fewer, and nothing else changed. A load gives 64m +
-- 63 for each entry and 0 elsewhere, and stores nothing. It supposes an image of octets and 32 numbers.
-- Assumes nothing.
use Rattle.std.specs.Prelude.{ℕ, ◌+◌, ◌*◌, ◌/◌, ◌≤◌, ◌<◌, min, ◌≡◌, ◌⊎◌, List, length, set, drop}
use Rattle.octets.specs.Lists.{octet, Octets}
use Rattle.link.specs.Calls.{Left, handed, loaded, secured, secured_cut, checked, checked_cut}
use Rattle.judging.specs.Said.{Said}
use Rattle.promises.specs.Images.{shape_in, count_in, spi_at, mark_place, service_at, mask_at, key_octets_at, code_at, coded, last_at, ImageRules, Agreeing}
use Rattle.promises.specs.Frames.{spi_on, number_on, field_on, text_on, coming_in, SecuredFrom}

-- a valid image, which differs from the one before in the mark of entry e at most, and there is the mark m
pub record MarkAlone (before : List ℕ) (e m : ℕ) (image : List ℕ) : Type 0 where
  pub valid : ImageRules image
  pub size : length image ≡ length before
  pub elsewhere : (p : ℕ) → (p < mark_place before e) ⊎ (mark_place before e + 4 ≤ p) → octet image p ≡ octet before p
  pub mark : code_at image e ≡ coded m

-- done, at entry e, with the number n from now on
pub record Leaves (image numbers output : List ℕ) (e n : ℕ) (x : Left) : Type 0 where
  pub images : MarkAlone image e (n / 64) x.image
  pub agree : Agreeing x.image x.numbers
  pub rise : last_at numbers e / 64 + x.stores ≡ n / 64
  pub few : x.stores ≤ 16
  pub lasts : x.numbers ≡ set numbers e n
  pub size : length x.output ≡ length output
  pub result : length (handed x) ≡ x.length
  pub rest : drop x.length x.output ≡ drop x.length output

pub record Loaded (image : List ℕ) (x : Left) : Type 0 where
  pub images : x.image ≡ image
  pub stores : x.stores ≡ 0
  pub size : x.length ≡ 0
  pub agree : Agreeing image x.numbers
  pub thirty_two : length x.numbers ≡ 32
  pub entries : (i m : ℕ) → i < count_in image → code_at image i ≡ coded m → last_at x.numbers i ≡ 64 * m + 63
  pub others : (i : ℕ) → count_in image ≤ i → last_at x.numbers i ≡ 0

-- a sending under entry e: what goes out is the secured frame of the entry's next number
pub record Sending (image numbers : List ℕ) (said : Said) (spi : ℕ) (frame output : List ℕ) (e : ℕ) (x : Left) : Type 0 where
  pub leaves : Leaves image numbers output e (last_at numbers e + 1) x
  pub out :
      SecuredFrom (shape_in image) (service_at image e) said spi (last_at numbers e + 1) (mask_at image e) (key_octets_at image e) frame (handed x)
  pub cut : (j : ℕ) → MarkAlone image e (last_at numbers e / 64 + min j x.stores) (secured_cut image numbers said spi frame output j)

-- a check under entry e: the number on the frame, and what comes out is the data in clear
pub record Checking (image numbers : List ℕ) (said : Said) (frame output : List ℕ) (e : ℕ) (x : Left) : Type 0 where
  pub leaves : Leaves image numbers output e (number_on (shape_in image) (service_at image e) said frame) x
  pub out :
      let service = service_at image e in
      handed x ≡ coming_in service (key_octets_at image e) (field_on service said frame) (text_on service said frame)
  pub cut : (j : ℕ) → MarkAlone image e (last_at numbers e / 64 + min j x.stores) (checked_cut image numbers said frame output j)

pub record Leaving : Type 0 where
  pub loading : (image numbers : List ℕ) → Octets image → let x = loaded image numbers in x.answer ≡ 0 → Loaded image x
  pub sending : (image numbers : List ℕ) (said : Said) (spi : ℕ) (frame output : List ℕ) (e : ℕ) → Octets image → length numbers ≡ 32
      → e < count_in image → spi_at image e ≡ spi → let x = secured image numbers said spi frame output in
      x.answer ≡ 0 → Sending image numbers said spi frame output e x
  pub checking : (image numbers : List ℕ) (said : Said) (frame output : List ℕ) (e : ℕ) → Octets image → length numbers ≡ 32
      → e < count_in image → spi_at image e ≡ spi_on said frame → let x = checked image numbers said frame output in
      x.answer ≡ 0 → Checking image numbers said frame output e x
