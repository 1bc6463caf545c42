-- One bit changed that may say how long the header is, in clear frames with and without a secondary header. By computing.
-- Assumes nothing.
use Prim.Native.Nat.{ℕ, ◌<◌}
use mathlib.Core.Path.{◌≡◌, refl}
use mathlib.Core.Bool.{true}
use mathlib.Core.List.{List, [], ◌∷◌}
use lib.Dec.{eqb}
use Rattle.check_field.specs.Register.{register, shift, shifts}
use Rattle.link.specs.Calls.{secured}
use Rattle.promises.specs.Cases.{all_true, image_of, one_number, room, fielded}
use Rattle.promises.specs.OneBit.{flipped, BitOf}
use Rattle.promises.proofs.Computing.{everything}
use Rattle.witness_frames.proofs.Frames.{fielded_tm, fielded_short, fielded_long, fielded_long_ocf}
use Rattle.bit_witnesses.proofs.Bits.{registered, any-bit}

-- the flag of a secondary header, set or taken away, and a bit of its length or of its version. Where the header that is then read fits, 12 is
-- given, and else 3
pub bits_of_secondary_headers_seen :
    let sending : List ℕ → ℕ = λ frame. (secured (image_of 1 3 1 100 0) (one_number 63) (fielded 3) 9 frame room).answer in
    all_true
    (eqb (sending (flipped 4 7 fielded_tm)) 3
    ∷ eqb (sending (flipped 4 7 fielded_short)) 12
    ∷ eqb (sending (flipped 6 0 fielded_short)) 3
    ∷ eqb (sending (flipped 6 1 fielded_short)) 3
    ∷ eqb (sending (flipped 6 5 fielded_long)) 12
    ∷ eqb (sending (flipped 6 6 fielded_long)) 3
    ∷ [])
    ≡ true
unfolding everything
bits_of_secondary_headers_seen = refl

pub bits_of_secondary-header : (p b : ℕ) → p < 77 → b < 8 → BitOf (fielded 3) fielded_long_ocf p b
unfolding everything registered register shifts shift
bits_of_secondary-header = any-bit (fielded 3) fielded_long_ocf refl refl refl
