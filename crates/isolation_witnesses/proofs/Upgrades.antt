-- An image of version 1 may be brought to version 2. By computing.
-- Assumes nothing.
use mathlib.Core.Path.{◌≡◌, refl, ◌∙◌}
use mathlib.Core.Bool.{true}
use native.Mathlib.Omega.{arith}
use lib.Dec.{lit<}
use lib.ListN.{set}
use lib.Seq.{get_or-set_other}
use Rattle.image.specs.Image.{valid_image}
use Rattle.promises.specs.Cases.{image_of}
use Rattle.promises.specs.Upgrade.{Upgraded}
use Rattle.promises.proofs.Computing.{everything}

-- a TM image of channel 5, brought to version 2 with the set of channels 1 and 5, meets the conditions and is valid
pub upgraded : let before = image_of 1 3 1 100 0 in Upgraded before (set (set before 0 2) 12 0x22)
unfolding everything
upgraded =
    let before = image_of 1 3 1 100 0 in
    record {
      from = refl;
      to = refl;
      elsewhere = λ p one other.
          get_or-set_other (set before 0 2) 12 p 0x22 0 (λ e. other 0 (lit< tt) refl e) ∙ get_or-set_other before 0 p 2 0 (omega arith);
    }

pub upgraded_valid : valid_image (set (set (image_of 1 3 1 100 0) 0 2) 12 0x22) ≡ true
unfolding everything
upgraded_valid = refl
