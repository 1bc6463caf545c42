-- Other projects' bodies change nothing. With two valid images whose numbers agree with their marks, a sending or a check of the same
-- frame, with the same arguments and an output of the same length, gives the same answer number, length, stores and result, if in both
-- images an entry serves the frame, with the same body, the same key and the same number, or in neither. It supposes nothing else of the
-- two images: they may be of different versions, and other entries and keys may differ in number, place and content.
-- Assumes nothing.
use Rattle.std.specs.Prelude.{ℕ, ◌≡◌, List, length}
use Rattle.octets.specs.Lists.{Octets}
use Rattle.link.specs.Calls.{Left, handed, secured, checked}
use Rattle.judging.specs.Said.{Said}
use Rattle.promises.specs.Images.{whole_body_at, key_octets_at, last_at, ImageRules, Agreeing, Serves}
use Rattle.promises.specs.Frames.{spi_on}

-- an image and its numbers, in good standing
pub record Standing (image numbers : List ℕ) : Type 0 where
  pub octets : Octets image
  pub valid : ImageRules image
  pub agree : Agreeing image numbers

-- the same entry for the frame, or none
pub data SameEntry (image numbers other otherNumbers : List ℕ) (direction : ℕ) (said : Said) (spi : ℕ) (frame : List ℕ) : Type 0 where
  both : (i j : ℕ) → Serves image direction said spi frame i → Serves other direction said spi frame j
      → whole_body_at image i ≡ whole_body_at other j
      → key_octets_at image i ≡ key_octets_at other j
      → last_at numbers i ≡ last_at otherNumbers j
      → SameEntry image numbers other otherNumbers direction said spi frame
  neither : ((i : ℕ) → Serves image direction said spi frame i → ⊥) → ((j : ℕ) → Serves other direction said spi frame j → ⊥)
      → SameEntry image numbers other otherNumbers direction said spi frame

pub record SameAnswer (x y : Left) : Type 0 where
  pub answer : x.answer ≡ y.answer
  pub size : x.length ≡ y.length
  pub stores : x.stores ≡ y.stores
  pub result : handed x ≡ handed y

pub record Isolation : Type 0 where
  pub sending : (image numbers other otherNumbers : List ℕ) (said : Said) (spi : ℕ) (frame output otherOutput : List ℕ)
      → Standing image numbers → Standing other otherNumbers → length output ≡ length otherOutput
      → SameEntry image numbers other otherNumbers 1 said spi frame
      → SameAnswer (secured image numbers said spi frame output) (secured other otherNumbers said spi frame otherOutput)
  pub checking : (image numbers other otherNumbers : List ℕ) (said : Said) (frame output otherOutput : List ℕ)
      → Standing image numbers → Standing other otherNumbers → length output ≡ length otherOutput
      → SameEntry image numbers other otherNumbers 2 said (spi_on said frame) frame
      → SameAnswer (checked image numbers said frame output) (checked other otherNumbers said frame otherOutput)
