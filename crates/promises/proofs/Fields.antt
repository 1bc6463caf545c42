-- A field of an entry, which the definitions read in the entry's body, stands in the image at the place that the promises name; and so do the
-- keys of a key part.
-- Assumes nothing.
use Prim.Native.Nat.{ℕ, zero, suc, ◌+◌, ◌*◌, ◌≤◌, ◌<◌}
use mathlib.Core.Path.{◌≡◌, refl, sym, ap, ap₂, ◌∙◌}
use mathlib.Core.Bool.{Bool, true, false, cond, ◌&&◌, true≢false}
use mathlib.Core.List.{List}
use native.Mathlib.Nat.{add-zero}
use native.Mathlib.Omega.{arith}
use lib.Dec.{eqb, ltb}
use Rattle.octets.specs.Lists.{octet, part}
use Rattle.octets.specs.Numbers.{number_at}
use Rattle.octets.proofs.Parts.{octet-part}
use Rattle.bodies.specs.Body.{service_of, kind_in, direction_of, state_of, spacecraft_of, channel_of, holds_set, map_of, window_of, mask_of, owner_of, body_in}
use Rattle.marks.specs.Gray.{ungray}
use Rattle.image.specs.Image.{version_of, body_at, body_of, mark_at, mark_in, part_at, key_count, key_id_in, key_of}
use Rattle.bodies.specs.Layout.{version_one, version_two, version_three, version_four, owner_place, layout_of}
use Rattle.bodies.specs.declared.layout.Layout.{Layout}
use Rattle.image.proofs.Places.{octet-body, number-body, part_body, key-body, key-part, mark-at}
use Rattle.keys.specs.Keys as keys
use Rattle.association.specs.Association.{naming_of}
use Rattle.promises.specs.Images.{shape_in, spi_at, place, mark_place, service_at, kind_at, direction_at, state_at, spacecraft_at, channel_at, map_at, window_at}
use Rattle.promises.specs.Images.{mask_at, key_id_at, code_at, whole_body_at, is_set, part_place, key_count_in, key_at, id_of_key, state_of_key, octets_of_key}
use Rattle.promises.specs.Images.{key_from, key_octets_at, owner_at}
use Rattle.promises.specs.Versions.{Shape, first, second, third, fourth, shape_of}

-- ---- a version's shape says what the definitions' layout of it says

pub record Shapes (shape : Shape) (l : Layout) : Type 0 where
  pub front : 2 + 4 * l.extra ≡ shape.front
  pub body : l.body ≡ shape.body
  pub key : l.key ≡ 16
  pub mark : l.mark ≡ shape.mark
  pub sets : l.sets ≡ shape.sets
  pub key_part : l.keys ≡ shape.key_part
  pub owners : l.owners ≡ shape.owners
  -- the fields, what a body holds of its key, and the mark, in this order
  pub holds : 18 ≤ shape.mark
  pub inside : shape.mark + 4 ≤ shape.body
  pub held : shape.key_part ≡ false → 48 ≤ shape.mark
  -- and behind the mark an owner
  pub owner : shape.owners ≡ true → (shape.mark ≡ 18) × (23 ≤ shape.body)
  -- a short body names its key; so bodies of one size have their marks at one place
  pub short : shape.key_part ≡ ltb shape.body 48
  pub tail : shape.mark ≡ cond (ltb shape.body 48) 18 48
  -- version and count stand before the contents
  pub begins : 2 ≤ shape.front

pub shapes : (version : ℕ) → Shapes (shape_of version) (layout_of version)
unfolding shape_of layout_of
shapes version = by-version (eqb version 4) (eqb version 3) (eqb version 2)
  where
    by-version : (four three two : Bool) → Shapes (cond four fourth (cond three third (cond two second first)))
        (cond four version_four (cond three version_three (cond two version_two version_one)))
    by-version true three two =
        record {
          front = refl;
          body = refl;
          key = refl;
          mark = refl;
          sets = refl;
          key_part = refl;
          owners = refl;
          holds = omega arith;
          inside = omega arith;
          held = λ e. absurd (true≢false e);
          owner = λ e. (refl, omega arith);
          short = refl;
          tail = refl;
          begins = omega arith;
        }
    by-version false true two =
        record {
          front = refl;
          body = refl;
          key = refl;
          mark = refl;
          sets = refl;
          key_part = refl;
          owners = refl;
          holds = omega arith;
          inside = omega arith;
          held = λ e. absurd (true≢false e);
          owner = λ e. absurd (true≢false (sym e));
          short = refl;
          tail = refl;
          begins = omega arith;
        }
    by-version false false true =
        record {
          front = refl;
          body = refl;
          key = refl;
          mark = refl;
          sets = refl;
          key_part = refl;
          owners = refl;
          holds = omega arith;
          inside = omega arith;
          held = λ e. omega arith;
          owner = λ e. absurd (true≢false (sym e));
          short = refl;
          tail = refl;
          begins = omega arith;
        }
    by-version false false false =
        record {
          front = refl;
          body = refl;
          key = refl;
          mark = refl;
          sets = refl;
          key_part = refl;
          owners = refl;
          holds = omega arith;
          inside = omega arith;
          held = λ e. omega arith;
          owner = λ e. absurd (true≢false (sym e));
          short = refl;
          tail = refl;
          begins = omega arith;
        }

-- versions 1 and 2 have their numbers alike
pub record Old (shape : Shape) : Type 0 where
  pub front : shape.front ≡ 2
  pub body : shape.body ≡ 52
  pub mark : shape.mark ≡ 48
  pub key_part : shape.key_part ≡ false

pub old_shape : (version : ℕ) → version ≤ 2 → Old (shape_of version)
unfolding shape_of
old_shape zero h = record { front = refl; body = refl; mark = refl; key_part = refl }
old_shape (suc zero) h = record { front = refl; body = refl; mark = refl; key_part = refl }
old_shape (suc (suc zero)) h = record { front = refl; body = refl; mark = refl; key_part = refl }
old_shape (suc (suc (suc n))) h = absurd (omega arith)

-- ---- the body of an entry

module _ (image : List ℕ) where
  abbrev here : Shapes (shape_in image) (layout_of (version_of image))
  here = shapes (version_of image)

  module _ (i : ℕ) where
    -- where octet j of the body stands, and what is read from there on
    pub stands : (j : ℕ) → body_at image i + j ≡ place image i j
    unfolding body_at
    stands j = rw here.body (omega (arith, here.front))

    octet-at : (j : ℕ) → j < 18 → octet (body_of image i) j ≡ octet image (place image i j)
    octet-at j h = octet-body image i j (rw here.body (omega (arith, here.holds, here.inside))) ∙ ap (octet image) (stands j)

    number-at : (j n : ℕ) → j + n ≤ 18 → number_at j n (body_of image i) ≡ number_at (place image i j) n image
    number-at j n h =
        number-body image i j n (rw here.body (omega (arith, here.holds, here.inside)))
        ∙ ap (λ (p : ℕ). number_at p n image) (stands j)

    part-at : (j n : ℕ) → j + n ≤ (shape_in image).body → part j n (body_of image i) ≡ part (place image i j) n image
    part-at j n h = part_body image i j n (rw here.body h) ∙ ap (λ (p : ℕ). part p n image) (stands j)

    pub service-at : service_of (body_of image i) ≡ service_at image i
    service-at = octet-at 0 (omega arith)

    pub kind-at : kind_in (body_of image i) ≡ kind_at image i
    kind-at = octet-at 1 (omega arith)

    pub direction-at : direction_of (body_of image i) ≡ direction_at image i
    direction-at = octet-at 2 (omega arith)

    pub state-at : state_of (body_of image i) ≡ state_at image i
    state-at = octet-at 3 (omega arith)

    pub spacecraft-at : spacecraft_of (body_of image i) ≡ spacecraft_at image i
    spacecraft-at = number-at 4 2 (omega arith)

    pub channel-at : channel_of (body_of image i) ≡ channel_at image i
    channel-at = octet-at 6 (omega arith)

    pub map_at_lem : map_of (body_of image i) ≡ map_at image i
    map_at_lem = octet-at 7 (omega arith)

    pub window-at : window_of (body_of image i) ≡ window_at image i
    window-at = number-at 8 2 (omega arith)

    pub mask_at_lem : mask_of (body_of image i) ≡ mask_at image i
    mask_at_lem = part-at 10 6 (omega (arith, here.holds, here.inside))

    pub last_mask-at : octet (mask_of (body_of image i)) 5 ≡ octet image (place image i 15)
    last_mask-at = octet-part 10 6 (body_of image i) 5 (omega arith) ∙ octet-at 15 (omega arith)

    pub key_id_at_lem : key_id_in image i ≡ key_id_at image i
    key_id_at_lem = ap (λ (p : ℕ). number_at p 2 (body_of image i)) here.key ∙ number-at 16 2 (omega arith)

    pub mark-place : mark_at image i ≡ mark_place image i
    unfolding mark_at
    mark-place = ap (λ (p : ℕ). body_at image i + p) here.mark ∙ stands (shape_in image).mark

    pub mark-is : mark_in image i ≡ ungray (code_at image i)
    mark-is = mark-at image i ∙ ap (λ (p : ℕ). ungray (number_at p 4 image)) mark-place

    pub body_is : body_of image i ≡ whole_body_at image i
    unfolding body_of body_in
    body_is = ap₂ (λ (p n : ℕ). part p n image) (sym (add-zero (body_at image i)) ∙ stands 0) here.body

    pub set_at : holds_set (version_of image) (body_of image i) ≡ is_set image i
    set_at = ap₂ ◌&&◌ here.sets (ap (λ (n : ℕ). eqb n 3) kind-at)

    pub owner_at_lem : owner_of (version_of image) (body_of image i) ≡ owner_at image i
    owner_at_lem = by-owners (shape_in image).owners refl
      where
        by-owners : (t : Bool) → (shape_in image).owners ≡ t
            → owner_of (version_of image) (body_of image i) ≡ cond t (octet image (place image i 22)) 1
        by-owners true e =
            let h = here.owner e in
            let p : owner_place (layout_of (version_of image)) ≡ 22 = omega (arith, here.mark, h.0) in
            rw (here.owners ∙ e, p)
            (octet-body image i 22 (rw here.body (omega (arith, h.1))) ∙ ap (octet image) (stands 22))
        by-owners false e = rw (here.owners ∙ e)

    -- what names the association in an IV
    pub naming-at : naming_of image i ≡ cond (shape_in image).key_part (spi_at image i) 0
    unfolding naming_of
    naming-at = rw here.key_part

  -- ---- the key part

  pub part-place : part_at image ≡ part_place image
  unfolding part_at
  part-place = rw here.body (omega (arith, here.front))

  pub key-count : key_count image ≡ key_count_in image
  unfolding key_count
  key-count = rw (here.key_part, part-place)

  pub key-place : (j : ℕ) → keys.key_place (part_at image) j ≡ key_at image j
  key-place j = ap (λ (p : ℕ). p + 1 + 35 * j) part-place

  pub key_id : (j : ℕ) → keys.key_id_at image (part_at image) j ≡ id_of_key image j
  key_id j = ap (λ (p : ℕ). number_at p 2 image) (key-place j)

  pub key-state : (j : ℕ) → keys.key_state_at image (part_at image) j ≡ state_of_key image j
  key-state j = ap (λ (p : ℕ). octet image (p + 2)) (key-place j)

  key-octets : (j : ℕ) → keys.key_octets_at image (part_at image) j ≡ octets_of_key image j
  key-octets j = ap (λ (p : ℕ). part (p + 2 + 1) 32 image) (key-place j) ∙ ap (λ (p : ℕ). part p 32 image) (omega arith)

  key-from : (id j n : ℕ) → keys.key_from image (part_at image) id j n ≡ key_from image id j n
  unfolding keys.key_from key_from
  key-from id j zero = refl
  key-from id j (suc n) = cc (key_id j, key-from id (j + 1) n)

  pub key_index_lem : (id : ℕ) → keys.key_index image (part_at image) (key_count image) id ≡ key_from image id 0 (key_count_in image)
  unfolding keys.key_index
  key_index_lem id = key-from id 0 (key_count image) ∙ ap (key_from image id 0) key-count

  pub key-at : (i : ℕ) → key_of image i ≡ key_octets_at image i
  unfolding keys.key_under
  key-at i = by_part (shape_in image).key_part refl
    where
      by_part : (t : Bool) → (shape_in image).key_part ≡ t
          → key_of image i ≡ cond t (octets_of_key image (key_from image (key_id_at image i) 0 (key_count_in image))) (part (place image i 16) 32 image)
      by_part true e =
          key-part image i (here.key_part ∙ e)
          ∙ ap (keys.key_octets_at image (part_at image)) (key_index_lem (key_id_in image i))
          ∙ key-octets (key_from image (key_id_in image i) 0 (key_count_in image))
          ∙ ap (λ (id : ℕ). octets_of_key image (key_from image id 0 (key_count_in image))) (key_id_at_lem i)
      by_part false e =
          key-body image i (here.key_part ∙ e)
          ∙ ap (λ (p : ℕ). part p 32 (body_of image i)) here.key
          ∙ part-at i 16 32 (omega (arith, here.held e, here.inside))
