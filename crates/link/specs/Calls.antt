-- Document 01, 'Managed numbers' and 'What comes back': load, securing and checking. What each call leaves, from the image, the numbers and
-- the output as they were and the call's arguments; and the image where power fails after j of its stores.
-- Assumes nothing.
use Rattle.std.specs.Prelude.{ℕ, Bool, true, cond, List, [], ◌++◌, eqb, length, set, take, drop}
use Rattle.association.specs.Association.{held_in, the_one, index_of}
use Rattle.image.specs.Image.{valid_image}
use Rattle.numbers.specs.Numbers.{loaded_numbers, number_of}
use Rattle.association.specs.Search.{entry_for}
use Rattle.marks.specs.Stores.{stored}
use Rattle.protection.specs.Protection.{mac_right}
use Rattle.judging.specs.Answers.{reported, first}
use Rattle.judging.specs.Replies.{seen, Reply, raising, front_tests, securing, checking}
use Rattle.judging.specs.Said.{Said, kind_said}
use Rattle.judging.specs.Wants.{securing_wants, checking_wants}
use Rattle.link.specs.declared.outcome.Outcome.{Outcome}

-- ---- everything that a call leaves

pub record Left : Type 0 where
  pub answer : ℕ
  pub length : ℕ
  pub stores : ℕ
  pub image : List ℕ
  pub numbers : List ℕ
  pub output : List ℕ

-- what the code's outcome, image and output at its return say
abbrev pub leaving : Outcome → List ℕ → List ℕ → Left
leaving r image output =
    record {
      answer = (reported r.answer).number;
      length = (reported r.answer).length;
      stores = (reported r.answer).stores;
      image = image;
      numbers = r.numbers.last;
      output = output;
    }

-- a refusal leaves all as it was
abbrev pub refused : ℕ → List ℕ → List ℕ → List ℕ → Left
refused n image last output = record { answer = n; length = 0; stores = 0; image = image; numbers = last; output = output }

-- a reply carried out: the stores, the number, then the result at the start of the output, whose rest stays
abbrev pub done : Reply → List ℕ → List ℕ → List ℕ → Left
done r image last output =
    record {
      answer = 0;
      length = r.size;
      stores = length r.stores;
      image = stored image r.stores;
      numbers = set last r.entry r.number;
      output = r.result ++ drop r.size output;
    }

abbrev pub left : Reply → List ℕ → List ℕ → List ℕ → Left
left r image last output = cond (eqb r.answer 0) (done r image last output) (refused r.answer image last output)

-- the image where the call is cut after j stores; a refusal makes none
abbrev pub cut : Reply → List ℕ → ℕ → List ℕ
cut r image j = cond (eqb r.answer 0) (stored image (take j r.stores)) image

-- the part of the output that the call filled: the frame handed out, or the data released
abbrev pub handed : Left → List ℕ
handed x = take x.length x.output

-- ---- load: every load is a restart; it stores nothing

unfoldable pub loaded : List ℕ → List ℕ → Left
loaded image last =
    cond (valid_image image)
    (record { answer = 0; length = 0; stores = 0; image = image; numbers = loaded_numbers image; output = [] })
    (refused 1 image last [])

-- ---- securing: image, numbers, what is said of the frame, SPI, clear frame, output

abbrev pub securing_entry : List ℕ → Said → ℕ → List ℕ → ℕ
securing_entry image said spi frame = index_of (entry_for image (securing_wants said spi frame))

-- with that much room in the output
unfoldable pub securing_reply : List ℕ → List ℕ → Said → ℕ → List ℕ → ℕ → Reply
securing_reply image last said spi frame room =
    raising image (securing_entry image said spi frame) (securing (seen image last (securing_wants said spi frame)) said spi frame room)

unfoldable pub secured : List ℕ → List ℕ → Said → ℕ → List ℕ → List ℕ → Left
secured image last said spi frame output =
    left (securing_reply image last said spi frame (length output)) image last output

unfoldable pub secured_cut : List ℕ → List ℕ → Said → ℕ → List ℕ → List ℕ → ℕ → List ℕ
secured_cut image last said spi frame output j =
    cut (securing_reply image last said spi frame (length output)) image j

-- ---- checking: image, numbers, what is said of the frame, secured frame, output

abbrev pub checking_entry : List ℕ → Said → List ℕ → ℕ
checking_entry image said frame = index_of (entry_for image (checking_wants said frame))

-- document 02, request 11: the number of the entry that a frame matches, in the numbers that its check leaves, and 0 without a match: where the
-- search finds none, or a test that comes before it refuses the frame
unfoldable pub matched_number : List ℕ → List ℕ → Said → List ℕ → List ℕ → ℕ
matched_number image last said frame after =
    cond (eqb (first (front_tests (seen image last (checking_wants said frame)) said frame true)) 0)
    (number_of after (checking_entry image said frame))
    0

-- how the comparison of the MAC falls out under the association that matches
unfoldable pub comparison : List ℕ → List ℕ → Said → List ℕ → Bool
comparison image last said frame = mac_right (held_in (the_one (seen image last (checking_wants said frame)).found)) (kind_said said) frame

unfoldable pub checking_reply : Bool → List ℕ → List ℕ → Said → List ℕ → ℕ → Reply
checking_reply right image last said frame room =
    raising image (checking_entry image said frame) (checking (seen image last (checking_wants said frame)) right said frame room)

-- where the comparison falls out so
unfoldable pub checked_as : Bool → List ℕ → List ℕ → Said → List ℕ → List ℕ → Left
checked_as right image last said frame output =
    left (checking_reply right image last said frame (length output)) image last output

unfoldable pub checked_cut_as : Bool → List ℕ → List ℕ → Said → List ℕ → List ℕ → ℕ → List ℕ
checked_cut_as right image last said frame output j =
    cut (checking_reply right image last said frame (length output)) image j

unfoldable pub checked : List ℕ → List ℕ → Said → List ℕ → List ℕ → Left
checked image last said frame output = checked_as (comparison image last said frame) image last said frame output

unfoldable pub checked_cut : List ℕ → List ℕ → Said → List ℕ → List ℕ → ℕ → List ℕ
checked_cut image last said frame output j = checked_cut_as (comparison image last said frame) image last said frame output j
