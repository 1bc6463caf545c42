-- The parts of a secured frame, as they are lent from it: each is the part that the definitions name.
-- Assumes nothing.
use Prim.Native.Nat.{ℕ, ◌+◌, ◌-◌, ◌≤◌}
use mathlib.Core.Path.{◌≡◌, ap, sym, ◌∙◌}
use mathlib.Core.List.{List}
use native.Mathlib.Omega.{arith}
use lib.ListN.{length, take, drop}
use lib.Seq.{slice, length-slice}
use Rattle.octets.specs.Lists.{part}
use Rattle.octets.proofs.Parts.{part-inside}
use Rattle.key_schedule.specs.KeyExpansion.{key_expansion}
use Rattle.kinds.specs.Kinds.{Kind, framed}
use Rattle.frame.specs.Parts.{mac_start, trailer_start, secured_parts, security_of, secured_content, mac_of}
use Rattle.frame.specs.declared.parts.SecuredParts.{SecuredParts}
use Rattle.association.specs.declared.held.Held.{Held}
use Rattle.services.specs.SecurityHeader.{security_length}
use Rattle.protection.specs.Protection.{text_in, clear_length}
use Rattle.opening.specs.Steps.{Opens}
use Rattle.opening.specs.declared.checked.Opening.{Opening}
use Rattle.protection.proofs.Slices.{slice_as_part}

-- where the parts of an opened frame end: one behind the other, inside the frame
pub record Placed (o : Opening) (frame : List ℕ) : Type 0 where
  pub header : o.parts.header ≡ (framed o.framing).header frame
  pub security : o.parts.security ≡ o.parts.header + security_length o.held
  pub text : o.parts.security + 1 ≤ o.parts.content
  pub mac : o.parts.content + 16 ≤ length frame
  pub small : length frame ≤ 2048

module _ (o : Opening) (frame : List ℕ) (s : Opens o frame) where
  abbrev h : Held
  h = o.held

  abbrev k : Kind
  k = framed o.framing

  abbrev p : SecuredParts
  p = o.parts

  places : p ≡ secured_parts k (security_length h) frame
  places = ap (λ (x : Opening). x.parts) s.opened

  pub key_expanded : o.expanded ≡ key_expansion h.key
  key_expanded = ap (λ (x : Opening). x.expanded) s.opened

  pub placed : Placed o frame
  placed =
      let a : p.header ≡ k.header frame = ap (λ (x : SecuredParts). x.header) places in
      let b : p.security ≡ k.header frame + security_length h = ap (λ (x : SecuredParts). x.security) places in
      let c : p.content ≡ mac_start k frame = ap (λ (x : SecuredParts). x.content) places in
      record {
        header = a;
        security = omega arith;
        text = omega (arith, s.parted);
        mac = omega (arith, s.parted);
        small = s.small;
      }

  pub security_lent : take (p.security - p.header) (drop p.header frame) ≡ security_of k (security_length h) frame
  unfolding security_of
  security_lent =
      slice_as_part p.header p.security frame ∙ ap (λ (x : SecuredParts). slice x.header x.security frame) places

  pub text_lent : take (p.content - p.security) (drop p.security frame) ≡ text_in h k frame
  unfolding text_in secured_content
  text_lent =
      slice_as_part p.security p.content frame ∙ ap (λ (x : SecuredParts). slice x.security x.content frame) places

  pub text-long : p.content - p.security ≡ clear_length h k frame
  unfolding clear_length text_in secured_content
  text-long =
      sym (length-slice p.security p.content frame (omega (arith, placed)))
      ∙ ap (λ (x : SecuredParts). length (slice x.security x.content frame)) places

  pub mac_read : part p.content 16 frame ≡ mac_of k frame
  unfolding mac_of
  mac_read =
      let c : p.content ≡ mac_start k frame = ap (λ (x : SecuredParts). x.content) places in
      let m : trailer_start k frame - mac_start k frame ≡ 16 = omega (arith, s.parted) in
      part-inside p.content 16 frame (omega (arith, placed))
      ∙ ap (λ (x : ℕ). take 16 (drop x frame)) c
      ∙ ap (λ (x : ℕ). take x (drop (mac_start k frame) frame)) (sym m)
      ∙ slice_as_part (mac_start k frame) (trailer_start k frame) frame
