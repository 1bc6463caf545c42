-- One bit changed: both answers are given, and the conditions are met by clear and by secured frames. By computing.
-- Assumes nothing.
use Prim.Native.Nat.{ℕ, ◌-◌, ◌<◌}
use mathlib.Core.Path.{◌≡◌, refl}
use mathlib.Core.Bool.{Bool, true, false, not, ◌||◌}
use mathlib.Core.List.{List, [], ◌∷◌}
use lib.Dec.{eqb}
use lib.ListN.{length, drop}
use Rattle.octets.specs.Lists.{Octets}
use Rattle.octets.specs.Numbers.{bytes}
use Rattle.octets.specs.Same.{same}
use Rattle.check_field.specs.CheckField.{right_field}
use Rattle.check_field.specs.Register.{register, shift, shifts}
use Rattle.check_field.proofs.Fields.{field-register}
use Rattle.kinds.specs.Kinds.{Kind}
use Rattle.frame.specs.Closing.{field_ok}
use Rattle.link.specs.Calls.{secured}
use Rattle.judging.specs.Said.{Said, kind_said}
use Rattle.promises.specs.Cases.{all_true, one_number, room, image_b, fielded}
use Rattle.promises.specs.OneBit.{flipped, BitOf}
use Rattle.promises.proofs.Computing.{everything}
use Rattle.promises.proofs.Readings.{field-kept}
use Rattle.witness_frames.proofs.Computed.{are_octets, octets_of_lem}
use Rattle.witness_frames.proofs.Frames.{fielded_frame, fielded_ocf, fielded_secured}

pub bits_seen :
    all_true
    (eqb (secured image_b (one_number 63) (fielded 1) 9 (flipped 0 7 fielded_frame) room).answer 3
    ∷ eqb (secured image_b (one_number 63) (fielded 1) 9 (flipped 3 0 fielded_frame) room).answer 3
    ∷ eqb (secured image_b (one_number 63) (fielded 1) 9 (flipped 5 7 fielded_frame) room).answer 12
    ∷ eqb (secured image_b (one_number 63) (fielded 1) 9 (flipped 7 0 fielded_frame) room).answer 12
    ∷ [])
    ≡ true
unfolding everything
bits_seen = refl

-- The field is right if the register makes it, which computes more quickly than the division
unfoldable pub registered : List ℕ → Bool
registered frame = same (drop (length frame - 2) frame) (bytes 2 (register (length frame - 2) frame))

or_so : (a b : Bool) → b ≡ true → (a || b) ≡ true
or_so true b e = refl
or_so false b e = e

right_so : (k : Kind) (frame : List ℕ) → Octets frame → registered frame ≡ true → field_ok k frame ≡ true
unfolding field_ok right_field registered
right_so k frame octets e = or_so (not k.ends_in_field) _ (rw (field-register (length frame - 2) frame octets) e)

-- any bit of a frame whose octets are octets and whose field is right
pub any-bit : (said : Said) (frame : List ℕ) → said.field ≡ true → are_octets frame ≡ true → registered frame ≡ true
    → (p b : ℕ) → p < length frame → b < 8 → BitOf said frame p b
any-bit said frame present octets right p b place bit =
    record {
      octets = octets_of_lem frame octets;
      said_so = present;
      field = field-kept said frame (right_so (kind_said said) frame (octets_of_lem frame octets) right);
      place = place;
      bit = bit;
    }

pub bits_of_clear : (p b : ℕ) → p < 8 → b < 8 → BitOf (fielded 1) fielded_frame p b
unfolding everything registered register shifts shift
bits_of_clear = any-bit (fielded 1) fielded_frame refl refl refl

pub bits_of_ocf : (p b : ℕ) → p < 13 → b < 8 → BitOf (fielded 3) fielded_ocf p b
unfolding everything registered register shifts shift
bits_of_ocf = any-bit (fielded 3) fielded_ocf refl refl refl

pub bits_of_secured : (p b : ℕ) → p < 30 → b < 8 → BitOf (fielded 1) fielded_secured p b
unfolding everything registered register shifts shift
bits_of_secured = any-bit (fielded 1) fielded_secured refl refl refl
