-- A closed frame: what it is closed with stands behind all else, so its parts lie where they lay, and its field is right.
-- Assumes nothing.
use Prim.Native.Nat.{ℕ, ◌+◌, ◌≤◌}
use mathlib.Core.Path.{◌≡◌, refl, sym, ◌∙◌}
use mathlib.Core.Bool.{Bool, true, false, ◌||◌, not, cond}
use mathlib.Core.List.{List, [], ◌++◌, append_assoc, append-nil}
use native.Mathlib.Omega.{arith}
use lib.ListN.{length}
use lib.Seq.{length-slice}
use Rattle.octets.specs.Numbers.{bytes}
use Rattle.octets.proofs.Numbers.{length-bytes}
use Rattle.check_field.specs.CheckField.{check_field, with_field, right_field}
use Rattle.check_field.proofs.Laws.{right_with}
use Rattle.kinds.specs.Kinds.{Kind, check_field_length}
use Rattle.frame.specs.Closing.{control_of, closed, field_ok}
use Rattle.frame.specs.Parts.{trailer_start, control_end}
use Rattle.frame.proofs.Assembled.{assembled}

-- what closes a frame: its check field, or nothing
abbrev pub made_field : Kind → List ℕ → List ℕ
made_field k front = cond k.ends_in_field (bytes 2 (check_field front)) []

-- over whether there is a field
module _ (front : List ℕ) where
  closed-by : (present : Bool) → cond present (with_field front) front ≡ front ++ cond present (bytes 2 (check_field front)) []
  unfolding with_field
  closed-by true = refl
  closed-by false = sym (append-nil front)

  length-by : (present : Bool) → length (cond present (bytes 2 (check_field front)) []) ≡ check_field_length present
  length-by true = length-bytes 2 (check_field front)
  length-by false = refl

  right_by : (present : Bool) → not present || right_field (cond present (with_field front) front) ≡ true
  right_by true = right_with front
  right_by false = refl

module _ (k : Kind) where
  pub closed_made : (front : List ℕ) → closed k front ≡ front ++ made_field k front
  unfolding closed
  closed_made front = closed-by front k.ends_in_field

  pub length_made : (front : List ℕ) → length (made_field k front) ≡ check_field_length k.ends_in_field
  length_made front = length-by front k.ends_in_field

  pub closed_ok : (front : List ℕ) → field_ok k (closed k front) ≡ true
  unfolding field_ok closed
  closed_ok front = right_by front k.ends_in_field

  -- the control field and the check field are the trailer
  pub length-control : (frame : List ℕ) → k.header frame + k.trailer frame ≤ length frame → check_field_length k.ends_in_field ≤ k.trailer frame
      → length (control_of k frame) + check_field_length k.ends_in_field ≡ k.trailer frame
  unfolding control_of
  length-control frame room counted =
      let l = length-slice (trailer_start k frame) (control_end k frame) frame (omega arith) in omega arith

  pub closed_assembled : (header security text mac control : List ℕ)
      → closed k (assembled header security text mac control)
      ≡ assembled header security text mac (control ++ made_field k (assembled header security text mac control))
  closed_assembled header security text mac control =
      closed_made (assembled header security text mac control) ∙ simp append_assoc
