-- What a grant gives to the function that writes the output: room for what is written, and a result of the length that was judged.
-- Assumes nothing.
use Prim.Native.Nat.{ℕ, ◌+◌, ◌≤◌}
use mathlib.Core.Path.{◌≡◌, refl, sym, subst}
use mathlib.Core.Bool.{Bool, true, false}
use mathlib.Core.List.{List}
use native.Mathlib.Omega.{arith}
use borrow.Author.Tests.{ltb-false}
use lib.ListN.{length}
use Rattle.kinds.specs.Kinds.{Kind, framed}
use Rattle.kinds.specs.declared.framing.Framing.{Framing}
use Rattle.kinds.proofs.Kept.{lawful_framed}
use Rattle.kinds.proofs.Sizes.{largest-most}
use Rattle.frame.specs.Rules.{obeys}
use Rattle.frame.proofs.Room.{Obeys, obeyed}
use Rattle.association.specs.declared.held.Held.{Held}
use Rattle.services.specs.SecurityHeader.{security_length}
use Rattle.protection.specs.Protection.{secured_length, secured_frame, clear_length}
use Rattle.sealing.specs.Steps.{Securable}
use Rattle.opening.specs.Steps.{opening_of, Opens}
use Rattle.opening.specs.declared.checked.Opening.{Opening}
use Rattle.protection.proofs.Wire.{length_whole}
use Rattle.judging.specs.Answers.{first}
use Rattle.judging.specs.Replies.{sending_tests, receiving_tests}
use Rattle.judging.proofs.Answered.{sends, receives}

module _ (h : Held) (last : ℕ) (framing : Framing) (frame : List ℕ) (room : ℕ) (o : obeys (framed framing) frame false ≡ true)
    (z : first (sending_tests h last (framed framing) frame room) ≡ 0) where
  pub securable : Securable h (framed framing) frame room
  securable =
      let b : Obeys (framed framing) frame false = obeyed (framed framing) frame false o in
      let m = largest-most framing.kind in
      record {
        parted = omega (arith, b.room);
        small = omega (arith, b.largest);
        roomy = (sends h last (framed framing) frame room z).roomy;
      }

  pub frame-size : (spi n : ℕ) → length (secured_frame h (framed framing) spi n frame) ≡ secured_length h frame
  frame-size spi n = length_whole h (framed framing) (lawful_framed framing) frame securable.parted spi n

-- ---- a frame that is opened, by the framing and under what it was opened with

pub opened_so : (framing : Framing) (h : Held) (frame : List ℕ) (o : Opening) → o ≡ opening_of framing h frame
    → obeys (framed framing) frame true ≡ true
    → (obeys (framed o.framing) frame true ≡ true) × (o ≡ opening_of o.framing o.held frame)
opened_so framing h frame o e b =
    subst (λ (x : Opening). (obeys (framed x.framing) frame true ≡ true) × (x ≡ opening_of x.framing x.held frame)) (sym e) (b, refl)

module _ (o : Opening) (frame : List ℕ) (b : obeys (framed o.framing) frame true ≡ true) (e : o ≡ opening_of o.framing o.held frame) where
  abbrev k : Kind
  k = framed o.framing

  -- past 3 and 5
  pub opens : k.header frame + security_length o.held + 17 + k.trailer frame ≤ length frame → Opens o frame
  opens l =
      let x : Obeys k frame true = obeyed k frame true b in
      let m = largest-most o.framing.kind in
      record { opened = e; parted = l; small = omega (arith, x.largest) }

  pub releasable : (last : ℕ) (right : Bool) (room : ℕ) → first (receiving_tests o.held last right k frame room) ≡ 0
      → Opens o frame × (clear_length o.held k frame ≤ room)
  releasable last right room z =
      let r = receives o.held last right k frame room z in
      let l : k.header frame + security_length o.held + 1 + 16 + k.trailer frame ≤ length frame = ltb-false (length frame) _ r.long in
      (opens (omega arith), r.roomy)
