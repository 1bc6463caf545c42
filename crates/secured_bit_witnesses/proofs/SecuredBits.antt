-- One bit changed that may say how long the header is, in a secured frame with a secondary header. By computing.
-- Assumes nothing.
use Prim.Native.Nat.{ℕ, ◌<◌}
use mathlib.Core.Path.{◌≡◌, refl}
use mathlib.Core.Bool.{true}
use mathlib.Core.List.{List, [], ◌∷◌}
use lib.Dec.{eqb}
use Rattle.check_field.specs.Register.{register, shift, shifts}
use Rattle.link.specs.Calls.{checked_as}
use Rattle.promises.specs.Cases.{all_true, image_of, one_number, room, fielded}
use Rattle.promises.specs.OneBit.{flipped, BitOf}
use Rattle.promises.proofs.Computing.{everything}
use Rattle.witness_frames.proofs.Frames.{fielded_long_secured}
use Rattle.bit_witnesses.proofs.Bits.{registered, any-bit}

-- the flag of the secondary header taken away, and a bit of its length or of its version. Where the header that is then read fits, 12 is
-- given, and else 3
pub bits_of_secured_headers_seen :
    let checking : List ℕ → ℕ = λ frame. (checked_as true (image_of 1 3 2 100 0) (one_number 63) (fielded 3) frame room).answer in
    all_true
    (eqb (checking (flipped 4 7 fielded_long_secured)) 12
    ∷ eqb (checking (flipped 6 5 fielded_long_secured)) 12
    ∷ eqb (checking (flipped 6 7 fielded_long_secured)) 3
    ∷ [])
    ≡ true
unfolding everything
bits_of_secured_headers_seen = refl

pub bits_of_secured-secondary-header : (p b : ℕ) → p < 95 → b < 8 → BitOf (fielded 3) fielded_long_secured p b
unfolding everything registered register shifts shift
bits_of_secured-secondary-header = any-bit (fielded 3) fielded_long_secured refl refl refl
