-- Document 01, 'The image': where bodies, marks and keys stand, and how long and of what octets a body and its fields are. In an image that
-- is laid out, the bodies lie inside, behind the contents, before the key part, and apart from each other.
-- Assumes nothing.
use mathlib.Core.Path.{◌≡◌, refl, sym, ap}
use mathlib.Core.Bool.{true, false}
use mathlib.Core.Logic.{inl, inr, ◌≢◌}
use mathlib.Core.List.{List}
use Prim.Native.Nat.{ℕ, ◌+◌, ◌≤◌, ◌<◌}
use native.Mathlib.Decide.{dec_lt}
use native.Mathlib.Omega.{arith}
use lib.ListN.{length}
use Rattle.octets.specs.Lists.{octet, part}
use Rattle.octets.specs.Numbers.{number_at}
use Rattle.octets.proofs.Numbers.{number_at-part}
use Rattle.octets.proofs.Parts.{length_part, octet-part, part-part}
use Rattle.marks.specs.Gray.{code_length, ungray}
use Rattle.octets.proofs.Outside.{Apart}
use Rattle.bodies.specs.Body.{body_in, code_of}
use Rattle.bodies.specs.Layout.{key_length, layout_of}
use Rattle.bodies.specs.declared.layout.Layout.{Layout}
use Rattle.bodies.proofs.Layouts.{lawful, ends_before}
use Rattle.image.specs.Image.{version_of, count_of, layout, entry_place, body_place, body_at, body_of, mark_at, mark_in, part_at, key_count, key_id_in, key_of, image_size}
use Rattle.keys.specs.Keys.{key_under}
use Rattle.image.proofs.ValidImages.{LaidOut}

-- ---- a body and its fields, in any image

pub length-body : (image : List ℕ) (i : ℕ) → length (body_of image i) ≡ (layout image).body
unfolding body_of body_in
length-body image i = length_part (body_at image i) (layout image).body image

pub octet-body : (image : List ℕ) (i k : ℕ) → k < (layout image).body → octet (body_of image i) k ≡ octet image (body_at image i + k)
unfolding body_of body_in
octet-body image i k h = octet-part (body_at image i) (layout image).body image k h

pub number-body : (image : List ℕ) (i k n : ℕ) → k + n ≤ (layout image).body
    → number_at k n (body_of image i) ≡ number_at (body_at image i + k) n image
unfolding body_of body_in
number-body image i k n h = number_at-part (body_at image i) (layout image).body k n image h

pub part_body : (image : List ℕ) (i k n : ℕ) → k + n ≤ (layout image).body → part k n (body_of image i) ≡ part (body_at image i + k) n image
unfolding body_of body_in
part_body image i k n h = part-part (body_at image i) (layout image).body k n image h

-- ---- the key

-- it stands in the body, or in the key part under the ID that the body names
pub key-body : (image : List ℕ) (i : ℕ) → (layout image).keys ≡ false → key_of image i ≡ part (layout image).key key_length (body_of image i)
unfolding key_of
key-body image i e =
    let held : (layout image).key + key_length ≤ (layout image).mark = rw e at (lawful (version_of image)).mark in
    rw e (sym (part_body image i (layout image).key key_length (omega (arith, (lawful (version_of image)).inside))))

pub key-part : (image : List ℕ) (i : ℕ) → (layout image).keys ≡ true
    → key_of image i ≡ key_under image (part_at image) (key_count image) (key_id_in image i)
unfolding key_of
key-part image i e = rw e

-- ---- the mark

-- it stands in the body, so its code can be read there or in the image
pub mark-behind-body : (image : List ℕ) (i : ℕ) → mark_at image i ≡ body_at image i + (layout image).mark
unfolding mark_at
mark-behind-body image i = refl

pub code_at : (image : List ℕ) (i : ℕ) → code_of (version_of image) (body_of image i) ≡ number_at (mark_at image i) code_length image
unfolding mark_at
code_at image i = number-body image i (layout image).mark code_length (lawful (version_of image)).inside

pub mark-at : (image : List ℕ) (i : ℕ) → mark_in image i ≡ ungray (number_at (mark_at image i) code_length image)
unfolding mark_in
mark-at image i = ap ungray (code_at image i)

-- ---- inside, behind the contents, and apart

-- the bodies stand behind the contents
pub behind_contents : (image : List ℕ) (i : ℕ) → entry_place (count_of image + (layout image).extra) ≤ body_at image i
unfolding body_at
behind_contents image i = omega arith

-- and before the key part, or the end
pub before-part : (image : List ℕ) (i : ℕ) → i < count_of image → body_at image i + (layout image).body ≤ part_at image
unfolding body_at part_at
before-part image i h = omega (arith, ends_before (layout image).body i (count_of image) h)

-- the bodies and their marks lie inside the image
pub body-inside : (image : List ℕ) → LaidOut image → (i : ℕ) → i < count_of image → body_at image i + (layout image).body ≤ length image
unfolding image_size
body-inside image laid i h = omega (arith, laid.size, before-part image i h)

pub mark-inside : (image : List ℕ) → LaidOut image → (i : ℕ) → i < count_of image → mark_at image i + code_length ≤ length image
mark-inside image laid i h =
    omega (arith, body-inside image laid i h, mark-behind-body image i, (lawful (version_of image)).inside)

-- and so do the entries of the contents
pub entry-inside : (image : List ℕ) → LaidOut image → (i : ℕ) → i < count_of image → entry_place i + 4 ≤ length image
entry-inside image laid i h = omega (arith, behind_contents image i, body-inside image laid i h)

-- a place that was reckoned from version and count, as code does it once for all entries
pub body_placed : (image : List ℕ) (version count i : ℕ) (l : Layout) → l ≡ layout_of version → version ≡ version_of image → count ≡ count_of image
    → body_place l count i ≡ body_at image i
unfolding body_at
body_placed image version count i l laid e k = rw (laid, e, k)

-- n octets in a body, and any in another, stand apart
pub bodies_apart : (image : List ℕ) (i j at n p k : ℕ) → j ≢ i → at + n ≤ (layout image).body → p + k ≤ (layout image).body
    → Apart (body_at image i + at) n (body_at image j + p) k
unfolding body_at
bodies_apart image i j at n p k other h l = by_place (dec_lt j i)
  where
    by_place : Dec (j < i) → Apart (body_at image i + at) n (body_at image j + p) k
    by_place (yes m) = inl (omega (arith, ends_before (layout image).body j i m))
    by_place (no g) = inr (omega (arith, ends_before (layout image).body i j (omega arith)))
