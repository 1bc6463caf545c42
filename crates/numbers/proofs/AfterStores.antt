-- Document 01, 'Managed numbers': the image after the first j stores of a call, for every j. The mark is that many higher, up to n / 64,
-- the image is valid again, and nothing but the four octets of the mark differs.
-- Assumes nothing.
use mathlib.Core.Path.{◌≡◌, refl, sym, ap, ◌∙◌}
use mathlib.Core.Logic.{◌≢◌}
use mathlib.Core.Bool.{Bool, true, false, cond, ◌&&◌}
use mathlib.Core.List.{List, []}
use Prim.Native.Nat.{ℕ, ◌+◌, ◌-◌, ◌/◌, ◌^◌, ◌≤◌, ◌<◌, min}
use native.Mathlib.Omega.{arith}
use borrow.Author.Tests.{lt-ltb}
use lib.Dec.{ltb}
use lib.ListN.{length, take}
use lib.Seq.{take_all, take-nil}
use Rattle.octets.specs.Lists.{octet, Octets}
use Rattle.octets.specs.Numbers.{number_at}
use Rattle.octets.proofs.Numbers.{number_at-lt}
use Rattle.marks.specs.Gray.{code_length, gray, ungray}
use Rattle.marks.specs.Stores.{stores_in, store_at, stores_of, first_stores, steps, stored}
use Rattle.marks.specs.declared.plans.Plan.{Plan}
use Rattle.marks.specs.declared.plans.Plan.TheVariants as plan
use Rattle.marks.proofs.GrayCode.{ungray-gray, gray-ungray, ungray-lt}
use Rattle.marks.proofs.Made.{Inside, length-steps, take_steps, length-stored, plan_changed}
use Rattle.octets.proofs.Outside.{Outside, Changed}
use Rattle.marks.proofs.RaisedMarks.{Marked, raises, store_inside, raises_octets, raises_marked}
use Rattle.image.specs.Image.{version_of, count_of, spi_of, position_of, body_of, key_of, mark_at, mark_in, laid_out, valid_image}
use Rattle.bodies.proofs.SameFields.{SameFields}
use Rattle.image.proofs.KeptParts.{kept-version, kept-count, kept-spi, kept-position, kept-mark-place, kept-body, kept-mark}
use Rattle.image.proofs.KeptParts.{mark_within, kept-fields, kept-key, kept-valid}
use Rattle.image.proofs.Places.{mark-at, mark-inside}
use Rattle.image.proofs.ValidImages.{laid_out_lem, valid, valid-laid, mark-small}
use Rattle.numbers.specs.Numbers.{greatest, number_of, loaded_numbers}
use Rattle.numbers.specs.Stores.{plan_for, stores_made, after_stores}
use Rattle.numbers.proofs.LoadedNumbers.{mark_fits, loaded-same}

-- ---- the stores of an entry that the image has, and of one that it does not have

-- whether the image is laid out and has entry i
abbrev pub has_entry : List ℕ → ℕ → Bool
has_entry image i = laid_out image && ltb i (count_of image)

pub has_entry_lem : (image : List ℕ) (i : ℕ) → laid_out image ≡ true → i < count_of image → has_entry image i ≡ true
has_entry_lem image i e h = rw (e, lt-ltb i (count_of image) h)

module _ (image : List ℕ) (i n j : ℕ) where
  -- the first j stores: how many there are, and what they make
  some : has_entry image i ≡ true
      → first_stores (plan_for image i n) j ≡ raises (mark_at image i) (mark_in image i) (min j (n / 64 - mark_in image i))
  unfolding plan_for
  some e = simp e (take_steps _ j (n / 64 - mark_in image i))

  none : has_entry image i ≡ false → first_stores (plan_for image i n) j ≡ take j []
  unfolding plan_for steps
  none e = simp e

  pub made_some : has_entry image i ≡ true → stores_made image i n j ≡ min j (n / 64 - mark_in image i)
  unfolding stores_made
  made_some e = rw (some e) (length-steps _ (min j (n / 64 - mark_in image i)))

  -- all of them, where j is enough
  pub made_all : has_entry image i ≡ true → n / 64 - mark_in image i ≤ j → stores_made image i n j ≡ n / 64 - mark_in image i
  made_all e h =
      let enough : min j (n / 64 - mark_in image i) ≡ n / 64 - mark_in image i = omega arith in
      made_some e ∙ enough

  -- the image after them
  pub after-some : has_entry image i ≡ true
      → after_stores image i n j ≡ stored image (raises (mark_at image i) (mark_in image i) (min j (n / 64 - mark_in image i)))
  unfolding after_stores
  after-some e = ap (stored image) (some e)

  pub after_none : has_entry image i ≡ false → after_stores image i n j ≡ image
  unfolding after_stores stored
  after_none e = rw (none e, take-nil)

  -- j at least their number: the image after all of them
  pub after-all : length (stores_of (plan_for image i n)) ≤ j → after_stores image i n j ≡ stored image (stores_of (plan_for image i n))
  unfolding after_stores
  after-all h = ap (stored image) (take_all j (stores_of (plan_for image i n)) h)

  -- ---- what holds of every image: its length, its octets, and all that stands outside the mark

  -- as long as before
  pub after-length : length (after_stores image i n j) ≡ length image
  unfolding after_stores
  after-length = length-stored image (first_stores (plan_for image i n) j)

  -- of octets, if it was
  pub after-octets : Octets image → Octets (after_stores image i n j)
  after-octets h = by-entry (has_entry image i) refl
    where
      by-entry : (t : Bool) → has_entry image i ≡ t → Octets (after_stores image i n j)
      by-entry true e = rw (after-some e) (raises_octets image (mark_at image i) (mark_in image i) (min j (n / 64 - mark_in image i)) h)
      by-entry false e = rw (after_none e) h

  -- nothing but the four octets of the mark differs
  pub mark_only : n ≤ greatest → Changed image (mark_at image i) code_length (after_stores image i n j)
  unfolding after_stores plan_for
  mark_only h = plan_changed (plan_for image i n) image (mark_at image i) code_length (inside (has_entry image i)) j
    where
      planned : Bool → Plan
      planned t = cond t (plan.Raise (mark_at image i) (mark_in image i) (n / 64)) plan.Nothing

      inside : (t : Bool) → (k : ℕ) → k < stores_in (planned t) → Inside (mark_at image i) code_length (store_at (planned t) k)
      inside true k l = store_inside (mark_at image i) (mark_in image i + k) (omega (arith, mark_fits n h))
      inside false k l = absurd (omega arith)

-- ---- what holds of the mark, in an image of octets that is laid out

module _ (image : List ℕ) (i n j : ℕ) (octets : Octets image) (laid : laid_out image ≡ true) (listed : i < count_of image)
    (small : n ≤ greatest) where
  code_below : number_at (mark_at image i) code_length image < 2 ^ 32
  code_below = number_at-lt (mark_at image i) code_length image octets

  marked : Marked image (mark_at image i) (mark_in image i)
  marked =
      record {
        octets = octets;
        inside = mark-inside image (laid_out_lem image laid) i listed;
        code = sym (ap gray (mark-at image i) ∙ gray-ungray (number_at (mark_at image i) code_length image) code_below);
      }

  -- it is higher by the stores that were made
  pub after-mark : mark_in (after_stores image i n j) i ≡ mark_in image i + min j (n / 64 - mark_in image i)
  after-mark =
      let at : ℕ = mark_at image i in
      let m : ℕ = mark_in image i in
      let more : ℕ = min j (n / 64 - m) in
      let after : List ℕ = after_stores image i n j in
      let below : mark_in image i < 2 ^ 32 = rw mark-at (ungray-lt 32 (number_at (mark_at image i) code_length image) code_below) in
      let made : Marked (stored image (raises at m more)) at (m + more) =
      raises_marked image at m more marked (omega (arith, mark_fits n small))
      in
      mark-at after i
      ∙ ap (λ (a : ℕ). ungray (number_at a code_length after)) (kept-mark-place (mark_within image i after listed (mark_only image i n j small)) i)
      ∙ ap (λ (s : List ℕ). ungray (number_at at code_length s)) (after-some image i n j (has_entry_lem image i laid listed))
      ∙ ap ungray made.code
      ∙ ungray-gray (m + more) (omega (arith, mark_fits n small))

-- ---- what holds of a valid image of octets

-- `after` is the image with the mark of entry i at m
pub record Raised (image : List ℕ) (i m : ℕ) (after : List ℕ) : Type 0 where
  pub valid : valid_image after ≡ true
  pub octets : Octets after
  pub long : length after ≡ length image
  pub version : version_of after ≡ version_of image
  pub count : count_of after ≡ count_of image
  pub spi : (k : ℕ) → k < count_of image → spi_of after k ≡ spi_of image k
  pub position : (k : ℕ) → k < count_of image → position_of after k ≡ position_of image k
  pub mark : mark_in after i ≡ m
  pub other_mark : (k : ℕ) → k ≢ i → mark_in after k ≡ mark_in image k
  pub other_body : (k : ℕ) → k ≢ i → body_of after k ≡ body_of image k
  pub other_number : (k : ℕ) → k ≢ i → number_of (loaded_numbers after) k ≡ number_of (loaded_numbers image) k
  pub fields : (k : ℕ) → SameFields (body_of image k) (body_of after k)
  pub key : (k : ℕ) → key_of after k ≡ key_of image k
  pub outside : (p : ℕ) → Outside (mark_at image i) code_length p → octet after p ≡ octet image p

-- after the first j of the stores that raise it to n / 64
pub raised : (image : List ℕ) (i n j : ℕ) → valid_image image ≡ true → Octets image → i < count_of image → n ≤ greatest
    → Raised image i (mark_in image i + min j (n / 64 - mark_in image i)) (after_stores image i n j)
raised image i n j passed octets listed small =
    let after : List ℕ = after_stores image i n j in
    let only : Changed image (mark_at image i) code_length after = mark_only image i n j small in
    let within = mark_within image i after listed only in
    let mark : mark_in after i ≡ mark_in image i + min j (n / 64 - mark_in image i) =
    after-mark image i n j octets (valid-laid image passed) listed small
    in
    let allowed : mark_in after i < 2 ^ 26 = omega (arith, mark-small image (valid image passed) i listed, mark_fits n small) in
    record {
      valid = kept-valid image i after listed only passed allowed;
      octets = after-octets image i n j octets;
      long = after-length image i n j;
      version = kept-version within;
      count = kept-count within;
      spi = kept-spi within;
      position = kept-position within;
      mark = mark;
      other_mark = kept-mark within;
      other_body = kept-body within;
      other_number =
          λ k other. loaded-same image after k (kept-count within) (kept-mark within k other);
      fields = kept-fields image i after listed only;
      key = kept-key image i after listed only;
      outside = only.outside;
    }
