-- What the MAC covers before the data, written in two pieces: the masked header, then the security header as it stands. An array of the
-- most octets that it may be holds it.
-- Assumes nothing.
use Prim.Native.Nat.{ℕ, ◌+◌, ◌-◌, ◌≤◌}
use mathlib.Core.Path.{◌≡◌, refl, ap, ◌∙◌}
use mathlib.Core.List.{List, ◌++◌}
use native.Mathlib.Nat.{add-sub_cancel_left}
use native.Mathlib.Omega.{arith}
use lib.ListN.{length, take, drop, replicate, length-append}
use lib.Seq.{slice, length-slice, length-take-le, take_at}
use Rattle.kinds.specs.Kinds.{Kind, framed}
use Rattle.masking.specs.Masked.{masked, masked_header}
use Rattle.frame.specs.Parts.{header_of, security_of}
use Rattle.kinds.specs.declared.framing.Framing.{Framing}
use Rattle.masking.proofs.Masking.{length-masked}
use Rattle.kinds.proofs.Sizes.{header-most}
use Rattle.octets.specs.Output.{written, fronted}
use Rattle.association.specs.declared.held.Held.{Held}
use Rattle.services.specs.SecurityHeader.{security_length}
use Rattle.protection.specs.Protection.{most_before, covered_before, covered_in}
use Rattle.services.proofs.ServiceLaws.{lawful}
use Rattle.octets.proofs.Filling.{length-written, with_room, behind}
use Rattle.protection.proofs.Slices.{slice_as_part}

module _ (k : Kind) (mask frame out : List ℕ) (h s : ℕ) (e : h ≡ k.header frame) (inFrame : h + s ≤ length frame)
    (inOut : h + s ≤ length out) where
  length-first : length (masked mask (header_of k frame)) ≡ h
  unfolding header_of
  length-first = rw (length-masked mask (take (k.header frame) frame), ← e) (length-take-le h frame (omega arith))

  length-second : length (security_of k s frame) ≡ s
  unfolding security_of
  length-second = rw (← e) (length-slice h (h + s) frame inFrame ∙ add-sub_cancel_left h s)

  first_piece : fronted (masked_header k mask frame) out ≡ written (masked mask (header_of k frame)) out
  unfolding masked_header
  first_piece = let l = length-first in with_room (masked mask (header_of k frame)) out (omega arith)

  pub covered : (first : List ℕ) → first ≡ fronted (masked_header k mask frame) out
      → take h first ++ fronted (take (h + s - h) (drop h frame)) (drop h first)
      ≡ written (masked mask (header_of k frame) ++ security_of k s frame) out
  unfolding security_of
  covered first f =
      let t : take (h + s - h) (drop h frame) ≡ security_of k s frame =
      slice_as_part h (h + s) frame ∙ ap (λ (x : ℕ). slice x (x + s) frame) e
      in
      let l : length (security_of k s frame) ≡ s = length-second in
      rw t (behind h (masked mask (header_of k frame)) (security_of k s frame) out first length-first (omega arith) (f ∙ first_piece))

  -- what is covered, as it then stands at the front
  length_covered : length (masked mask (header_of k frame) ++ security_of k s frame) ≡ h + s
  length_covered =
      let a = length-append (masked mask (header_of k frame)) (security_of k s frame) in
      let b = length-first in
      let c = length-second in
      omega arith

  front_covered : (whole : List ℕ) → whole ≡ written (masked mask (header_of k frame) ++ security_of k s frame) out
      → take (h + s) whole ≡ masked mask (header_of k frame) ++ security_of k s frame
  front_covered whole w =
      let text : List ℕ = masked mask (header_of k frame) ++ security_of k s frame in
      ap (take (h + s)) w ∙ take_at text (drop (length text) out) (h + s) length_covered

  long_covered : (whole : List ℕ) → whole ≡ written (masked mask (header_of k frame) ++ security_of k s frame) out → length whole ≡ length out
  long_covered whole w =
      let l = length_covered in
      ap length w ∙ length-written (masked mask (header_of k frame) ++ security_of k s frame) out (omega arith)

-- ---- in an array of the most octets, under what an association holds

module _ (h : Held) (framing : Framing) (frame : List ℕ) where
  pub covered_most : (framed framing).header frame + security_length h ≤ most_before
  covered_most = let m = header-most framing.kind frame in let f = (lawful h.service).short in omega arith

  module _ (s : ℕ) (e : s ≡ security_length h) (fits : (framed framing).header frame + s ≤ length frame) (whole : List ℕ)
      (w : whole ≡ written (masked h.mask (header_of (framed framing) frame) ++ security_of (framed framing) s frame) (replicate most_before 0)) where
    pub long-before : length whole ≡ most_before
    long-before =
        let t = covered_most in
        long_covered (framed framing) h.mask frame (replicate most_before 0) ((framed framing).header frame) s refl fits (omega arith) whole w

    pub front : take ((framed framing).header frame + s) whole
        ≡ covered_in h (framed framing) frame
    unfolding covered_before
    front =
        let t = covered_most in
        front_covered (framed framing) h.mask frame (replicate most_before 0) ((framed framing).header frame) s refl fits (omega arith) whole w
        ∙ ap (λ (x : ℕ). masked h.mask (header_of (framed framing) frame) ++ security_of (framed framing) x frame) e
