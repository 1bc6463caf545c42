-- Document 01, 'The image': what a valid image is known to be. Its rules, which the definition tests one behind the other, are facts with
-- names; and its SPIs rise, so that no two entries have the same.
-- Assumes nothing.
use mathlib.Core.Path.{◌≡◌, refl}
use mathlib.Core.Bool.{Bool, true, false, cond, ◌&&◌}
use mathlib.Core.List.{List}
use Prim.Native.Nat.{ℕ, zero, suc, ◌-◌, ◌^◌, ◌≤◌, ◌<◌}
use native.Mathlib.Decide.{dec_lt}
use native.Mathlib.Omega.{arith}
use borrow.Author.Tests.{eqb-true, eq-eqb, leb-true, ltb-true}
use lib.Dec.{eqb-suc-zero}
use lib.ListN.{length}
use Rattle.octets.specs.Lists.{octet, all}
use Rattle.octets.proofs.Alls.{and_left, and_right, all-at}
use Rattle.bodies.specs.Body.{state_of, operational, body_ok}
use Rattle.bodies.specs.Layout.{version_ok}
use Rattle.bodies.proofs.ValidBodies.{ValidBody, between, valid-body}
use Rattle.image.specs.Image.{version_of, count_of, spi_of, position_of, spi_before, body_at, body_of, mark_in, most_entries, image_size}
use Rattle.image.specs.Image.{layout, part_at, key_count, key_in, key_id_in, laid_out, entry_ok, part_spi, last_ok, keyed_ok, keys_ok, valid_image}
use Rattle.keys.specs.Keys.{active, most_keys, key_part_ok}
use Rattle.keys.proofs.FoundKeys.{ValidKeys, valid-keys}

-- ---- the rules as facts

-- version, count and size
pub record LaidOut (image : List ℕ) : Type 0 where
  pub version : version_ok (version_of image) ≡ true
  pub count : count_of image ≤ most_entries
  pub size : length image ≡ image_size image

-- every rule of an entry and its body
pub record ValidEntry (image : List ℕ) (i : ℕ) : Type 0 where
  pub spi : (1 ≤ spi_of image i) × (spi_of image i ≤ 65534)
  pub rises : spi_before image i < spi_of image i
  pub position : position_of image i ≡ body_at image i
  pub body : ValidBody (version_of image) (body_of image i)

-- every rule of a key part and of the bodies that name its keys
pub record Keyed (image : List ℕ) : Type 0 where
  pub spi : spi_of image (count_of image) ≡ part_spi
  pub position : position_of image (count_of image) ≡ part_at image
  pub keys : ValidKeys image (part_at image) (key_count image)
  pub serves : (i : ℕ) → i < count_of image → state_of (body_of image i) ≡ operational → key_in image active (key_id_in image i) ≡ true

-- every rule of an image
pub record Valid (image : List ℕ) : Type 0 where
  pub laid : LaidOut image
  pub entry : (i : ℕ) → i < count_of image → ValidEntry image i
  pub keyed : (layout image).keys ≡ true → Keyed image

-- ---- the tests give the facts

pub laid_out_lem : (image : List ℕ) → laid_out image ≡ true → LaidOut image
unfolding laid_out
laid_out_lem image e =
    record {
      version = search (and_left, and_right);
      count = leb-true (count_of image) most_entries (search (and_left, and_right));
      size = eqb-true (length image) (image_size image) (search (and_left, and_right));
    }

valid-entry : (image : List ℕ) (i : ℕ) → (entry_ok image i && body_ok (version_of image) (body_of image i)) ≡ true → ValidEntry image i
unfolding entry_ok
valid-entry image i e =
    record {
      spi = between 1 (spi_of image i) 65534 (search (and_left, and_right));
      rises = ltb-true (spi_before image i) (spi_of image i) (search (and_left, and_right));
      position = eqb-true (position_of image i) (body_at image i) (search (and_left, and_right));
      body = valid-body (version_of image) (body_of image i) (search (and_left, and_right));
    }

-- every entry with its body passes
abbrev pub ruled : List ℕ → ℕ → Bool
ruled image i = entry_ok image i && body_ok (version_of image) (body_of image i)

pub valid-laid : (image : List ℕ) → valid_image image ≡ true → laid_out image ≡ true
unfolding valid_image
valid-laid image e = and_left (laid_out image) (all (count_of image) (ruled image)) (and_left _ (keys_ok image) e)

pub valid_ruled : (image : List ℕ) → valid_image image ≡ true → (i : ℕ) → i < count_of image → ruled image i ≡ true
unfolding valid_image
valid_ruled image e =
    all-at (count_of image) (ruled image) (and_right (laid_out image) (all (count_of image) (ruled image)) (and_left _ (keys_ok image) e))

pub valid-keyed : (image : List ℕ) → valid_image image ≡ true → keys_ok image ≡ true
unfolding valid_image
valid-keyed image e = and_right (laid_out image && all (count_of image) (ruled image)) (keys_ok image) e

-- each body passes the test on the key that it names
pub valid_serving : (image : List ℕ) → valid_image image ≡ true → (layout image).keys ≡ true → (i : ℕ) → i < count_of image → keyed_ok image i ≡ true
unfolding keys_ok
valid_serving image e has =
    let tests = last_ok image && key_part_ok image (part_at image) (key_count image) in
    let t : (tests && all (count_of image) (keyed_ok image)) ≡ true = rw has at (valid-keyed image e) in
    all-at (count_of image) (keyed_ok image) (and_right tests (all (count_of image) (keyed_ok image)) t)

serves-keyed : (image : List ℕ) (i : ℕ) → keyed_ok image i ≡ true → state_of (body_of image i) ≡ operational
    → key_in image active (key_id_in image i) ≡ true
serves-keyed image i e serves = rw (eq-eqb (state_of (body_of image i)) operational serves) at e

keyed : (image : List ℕ) → keys_ok image ≡ true → (layout image).keys ≡ true → Keyed image
unfolding keys_ok
keyed image e has =
    let tests = last_ok image && key_part_ok image (part_at image) (key_count image) && all (count_of image) (keyed_ok image) in
    let t : tests ≡ true = rw has at e in
    record {
      spi = eqb-true (spi_of image (count_of image)) part_spi (search (and_left, and_right));
      position = eqb-true (position_of image (count_of image)) (part_at image) (search (and_left, and_right));
      keys = valid-keys image (part_at image) (key_count image) (search (and_left, and_right));
      serves = λ i h. serves-keyed image i (all-at (count_of image) (keyed_ok image) (search (and_left, and_right)) i h);
    }

pub valid : (image : List ℕ) → valid_image image ≡ true → Valid image
valid image e =
    record {
      laid = laid_out_lem image (valid-laid image e);
      entry = λ i h. valid-entry image i (valid_ruled image e i h);
      keyed = keyed image (valid-keyed image e);
    }

-- the mark of an entry is below 2 ^ 26
pub mark-small : (image : List ℕ) → Valid image → (i : ℕ) → i < count_of image → mark_in image i < 2 ^ 26
unfolding mark_in
mark-small image v i h = (v.entry i h).body.mark

-- there are at most 64 keys; without a key part there is none
pub keys-few : (image : List ℕ) → valid_image image ≡ true → key_count image ≤ most_keys
unfolding key_count
keys-few image e = of (layout image).keys refl
  where
    of : (t : Bool) → (layout image).keys ≡ t → cond t (octet image (part_at image)) 0 ≤ most_keys
    of true has = rw has at ((valid image e).keyed has).keys.few
    of false none = omega arith

-- ---- the SPIs rise, so none stands twice

spi-next : (image : List ℕ) → Valid image → (i : ℕ) → suc i < count_of image → spi_of image i < spi_of image (suc i)
spi-next image v i h =
    let here : suc i - 1 ≡ i = omega arith in
    rw (eqb-suc-zero i, here) at (v.entry (suc i) h).rises

-- a later entry has a greater SPI
pub spi_rises : (image : List ℕ) → Valid image → (i j : ℕ) → i < j → j < count_of image → spi_of image i < spi_of image j
spi_rises image v i zero l h = absurd (omega arith)
spi_rises image v i (suc j) l h = by_place (dec_lt i j) (λ m. spi_rises image v i j m (omega arith))
  where
    by_place : Dec (i < j) → (i < j → spi_of image i < spi_of image j) → spi_of image i < spi_of image (suc j)
    by_place (yes m) before = omega (arith, before m, spi-next image v j h)
    by_place (no g) before = let e : i ≡ j = omega arith in rw e (spi-next image v j h)

-- entries with the same SPI are the same
pub spi_once : (image : List ℕ) → Valid image → (i j : ℕ) → i < count_of image → j < count_of image → spi_of image i ≡ spi_of image j → i ≡ j
spi_once image v i j hi hj e = by_place (dec_lt i j) (dec_lt j i)
  where
    by_place : Dec (i < j) → Dec (j < i) → i ≡ j
    by_place (yes l) d = absurd (omega (arith, spi_rises image v i j l hj))
    by_place (no g) (yes l) = absurd (omega (arith, spi_rises image v j i l hi))
    by_place (no g) (no k) = omega arith
