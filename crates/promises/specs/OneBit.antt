-- Document 02, request 4: one bit that changes on the way is seen. Take a frame, clear or secured, that is said to end in a check field and ends
-- in the right one, and change any one bit of it, of the header, the data or the field itself: to secure it, or to check it, is answered by
-- 3 or 12. So it is whatever the bit says, also where it is one of the length field or moves the trailer: the field is the last two octets of
-- what is handed in. It supposes a valid image, numbers that agree with it and a desk of at most 2, as 1, 2 and 19 come first, and nothing else:
-- whether the frame obeyed its kind before, which kind that is, and what SPI, entries, keys and output there are.
-- Assumes nothing.
use Rattle.std.specs.Prelude.{ℕ, ◌^◌, ◌≤◌, ◌<◌, ◌≡◌, true, ◌⊎◌, List, length, set}
use Rattle.octets.specs.Lists.{octet, Octets}
use Rattle.octets.specs.Xor.{◌⊕◌}
use Rattle.link.specs.Calls.{Left, secured, checked}
use Rattle.judging.specs.Said.{Said}
use Rattle.promises.specs.Frames.{RightField}
use Rattle.promises.specs.Images.{ImageRules, Agreeing}

-- the bit of weight 2 ^ b of octet p changed
abbrev pub flipped : ℕ → ℕ → List ℕ → List ℕ
flipped p b frame = set frame p (octet frame p ⊕ 2 ^ b)

-- a frame with a right field, one of whose bits is meant
pub record BitOf (said : Said) (frame : List ℕ) (p b : ℕ) : Type 0 where
  pub octets : Octets frame
  pub said_so : said.field ≡ true
  pub field : RightField said frame
  pub place : p < length frame
  pub bit : b < 8

abbrev pub ThreeOrTwelve : Left → Type 0
ThreeOrTwelve x = (x.answer ≡ 3) ⊎ (x.answer ≡ 12)

pub record OneBit : Type 0 where
  pub sending : (image numbers : List ℕ) (said : Said) (spi : ℕ) (frame output : List ℕ) (p b : ℕ) → Octets image → ImageRules image
      → Agreeing image numbers → said.desk ≤ 2 → BitOf said frame p b → ThreeOrTwelve (secured image numbers said spi (flipped p b frame) output)
  pub checking : (image numbers : List ℕ) (said : Said) (frame output : List ℕ) (p b : ℕ) → Octets image → ImageRules image
      → Agreeing image numbers → said.desk ≤ 2 → BitOf said frame p b → ThreeOrTwelve (checked image numbers said (flipped p b frame) output)
