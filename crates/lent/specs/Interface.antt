-- The module as C calls it: the one number that a call returns, and what it leaves of the image, the numbers, the output and the notes that it
-- was lent. Each call is the module's on the lent numbers, if they are 32.
-- Assumes nothing.
use Rattle.std.specs.Prelude.{ℕ, ◌/◌, ◌%◌, ◌^◌, ◌≡◌, not, cond, List, eqb, length}
use Rattle.image.specs.Image.{valid_image}
use Rattle.link.specs.Calls.{Left, refused}
use Rattle.judging.specs.Said.{Said}
use Rattle.notes.specs.Noting.{lent_notes}
use Rattle.notes.specs.declared.Notes.{Notes}
use Rattle.noting.specs.Noted.{Noted}
use Rattle.lent.specs.Word.{word}

-- ---- the returned number

abbrev pub packed : Left → ℕ
packed x = word x.answer x.length x.stores

-- what C takes out of it
pub record Unpacked (x : Left) : Type 0 where
  pub answer : packed x / 2 ^ 40 ≡ x.answer
  pub stores : packed x / 2 ^ 32 % 2 ^ 8 ≡ x.stores
  pub length : packed x % 2 ^ 32 ≡ x.length

-- ---- what C says: its desk, the frame's kind, and by any number but 0 that a check field ends the frame

abbrev pub told : ℕ → ℕ → ℕ → Said
told desk kind field = record { desk = desk; kind = kind; field = not (eqb field 0) }

-- ---- the count of the numbers

-- Document 01 has 32 of them. No other count agrees with an image: it is refused by 2, after 1 as everywhere
abbrev pub counted : List ℕ → List ℕ → List ℕ → Left → Left
counted image numbers output call = cond (eqb (length numbers) 32) call (refused (cond (valid_image image) 2 1) image numbers output)

-- ---- what the caller sees of a call: the number, and the lent lists as it returns

pub record Returned (call : Left) (r : ℕ) (i n o : List ℕ) : Type 0 where
  pub result : r ≡ packed call
  pub image : i ≡ call.image
  pub numbers : n ≡ call.numbers
  pub output : o ≡ call.output

-- the same with the notes that it was lent, and the events beside them
pub record NotedReturned (call : Noted) (r : ℕ) (m : Notes) (e i n o : List ℕ) : Type 0 where
  pub returned : Returned call.left r i n o
  pub notes : lent_notes m e ≡ call.notes
