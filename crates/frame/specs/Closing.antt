-- Document 02, request 4: the check field at the end of a frame. The trailer is copied as far as it is the operational control field; the
-- check field behind that is made last, of all that stands before it.
-- Assumes nothing.
use Rattle.std.specs.Prelude.{ℕ, Bool, ◌||◌, not, cond, List}
use Rattle.std.proofs.Math.Seq.{slice}
use Rattle.check_field.specs.CheckField.{with_field, right_field}
use Rattle.kinds.specs.Kinds.{Kind}
use Rattle.frame.specs.Parts.{trailer_start, control_end}

unfoldable pub control_of : Kind → List ℕ → List ℕ
control_of k frame = slice (trailer_start k frame) (control_end k frame) frame

-- a frame of which only the field is left to make
unfoldable pub closed : Kind → List ℕ → List ℕ
closed k front = cond k.ends_in_field (with_field front) front

-- answer 12: a frame that ends in no field has none that could be wrong
unfoldable pub field_ok : Kind → List ℕ → Bool
field_ok k frame = not k.ends_in_field || right_field frame
