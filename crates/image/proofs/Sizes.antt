-- Document 02, requests 9 and 10: no valid image is longer than the longest of version 4.
-- Assumes nothing.
use mathlib.Core.Path.{◌≡◌, refl}
use mathlib.Core.Bool.{Bool, true, false, cond}
use mathlib.Core.List.{List}
use Prim.Native.Nat.{ℕ, ◌+◌, ◌≤◌}
use native.Mathlib.Omega.{arith}
use lib.Dec.{eqb}
use lib.ListN.{length}
use Rattle.bodies.specs.Layout.{version_one, version_two, version_three, version_four, layout_of}
use Rattle.keys.specs.Keys.{most_keys, part_size}
use Rattle.image.specs.Image.{version_of, count_of, most_entries, body_place, part_at, key_count, image_size, longest_image, valid_image}
use Rattle.image.proofs.ValidImages.{Valid, valid}

-- by layout, of an image with that many entries and keys
below : (four three two : Bool) (count keys : ℕ)
    → let l = cond four version_four (cond three version_three (cond two version_two version_one)) in
    count ≤ most_entries → (l.keys ≡ true → keys ≤ most_keys) → body_place l count count + cond l.keys (part_size keys) 0 ≤ longest_image
below true three two count keys few most = omega (arith, most refl)
below false true two count keys few most = omega (arith, most refl)
below false false true count keys few most = omega arith
below false false false count keys few most = omega arith

pub valid-size : (image : List ℕ) → valid_image image ≡ true → length image ≤ longest_image
unfolding image_size part_at layout_of
valid-size image passed =
    let v : Valid image = valid image passed in
    let b = below (eqb (version_of image) 4) (eqb (version_of image) 3) (eqb (version_of image) 2) (count_of image) (key_count image)
    v.laid.count (λ has. (v.keyed has).keys.few)
    in
    omega (arith, v.laid.size)
