-- `write_secured` is right because each piece goes behind those before it: the headers, the data as it goes out, the MAC, the control field,
-- and last the check field.
-- Assumes nothing.
use mathlib.Core.Path.{◌≡◌, ap, ap₂, ◌∙◌}
use mathlib.Core.List.{List}
use Prim.Native.Nat.{ℕ, ◌+◌, ◌-◌, ◌≤◌}
use native.Mathlib.Omega.{arith}
use lib.ListN.{length, take, drop, length-take, length-drop}
use lib.Seq.{slice, drop_at, take_at}
use Rattle.octets.specs.Numbers.{bytes}
use Rattle.octets.proofs.Numbers.{length-bytes}
use Rattle.kinds.specs.Kinds.{framed}
use Rattle.frame.specs.Parts as parts
use Rattle.frame.specs.Closing.{control_of}
use Rattle.frame.specs.Parts.{clear_content, trailer_start, control_end}
use Rattle.frame.specs.declared.parts.ClearParts.{ClearParts}
use Rattle.kinds.proofs.Kept.{lawful_framed}
use Rattle.octets.specs.Output.{written}
use Rattle.services.specs.SecurityHeader.{service_in, security_length, field_for}
use Rattle.protection.specs.Protection.{secured_length}
use Rattle.services.specs.Steps.{text_under}
use Rattle.sealing.proofs.Assembling as assembling
use Rattle.sealing.proofs.Assembling.{Securing}
use Rattle.protection.proofs.Wire.{length_security}
use Rattle.protection.proofs.Slices.{slice_as_part}
use borrow.Author.Rules.{rules}
use Rattle.sealing.proofs.secured.write_secured.Goals.{After-write_headers}
use Rattle.sealing.proofs.secured.write_secured.Goals as goal

-- ---- the places of the parts, and the room there is

record Measured (c : After-write_headers) : Type 0 where
  header : c.clear_parts-parts.result.header ≡ (framed c.args.framing).header c.args.frame.now
  content : c.clear_parts-parts.result.content ≡ trailer_start (framed c.args.framing) c.args.frame.now
  control : c.clear_parts-parts.result.control ≡ control_end (framed c.args.framing) c.args.frame.now
  security : c.security_length-security.result ≡ security_length c.args.held
  short : c.security_length-security.result ≤ 14
  parted : let k = framed c.args.framing in let f = c.args.frame.now in k.header f + k.trailer f ≤ length f
  small : length c.args.frame.now ≤ 2048
  roomy : secured_length c.args.held c.args.frame.now ≤ length c.args.output.now

measured : (c : After-write_headers) → Measured c
measured c =
    record {
      header = ap (λ (x : ClearParts). x.header) c.clear_parts-parts.ensures;
      content = ap (λ (x : ClearParts). x.content) c.clear_parts-parts.ensures;
      control = ap (λ (x : ClearParts). x.control) c.clear_parts-parts.ensures;
      security = c.security_length-security.ensures.0;
      short = search rules;
      parted = search rules;
      small = search rules;
      roomy = search rules;
    }

abbrev securing : After-write_headers → Securing
securing c =
    let g = c.args in
    record {
      held = g.held;
      kind = framed g.framing;
      law = lawful_framed g.framing;
      spi = g.spi;
      number = g.n;
      frame = g.frame.now;
      out = g.output.now;
      parted = (measured c).parted;
      roomy = (measured c).roomy;
    }

-- ---- the security header, its field, the clear data and the control field, as they are lent

abbrev security_lent : After-write_headers → List ℕ
security_lent c = take c.security_length-security.result c.security_header-octets.result

security-is : (c : After-write_headers) → security_lent c ≡ assembling.security (securing c)
security-is c =
    ap (λ (x : ℕ). take x c.security_header-octets.result) c.security_length-security.ensures.0
    ∙ ap (take (security_length c.args.held)) c.security_header-octets.ensures
    ∙ take_at (assembling.security (securing c)) _ (security_length c.args.held) (length_security c.args.held c.args.spi c.args.n)

field_is : (c : After-write_headers) → drop 2 (security_lent c) ≡ field_for c.args.held c.args.n
field_is c =
    let g = c.args in
    ap (drop 2) (security-is c) ∙ drop_at (bytes 2 g.spi) (field_for g.held g.n) 2 (length-bytes 2 g.spi)

abbrev clear-lent : After-write_headers → List ℕ
clear-lent c = let p = c.clear_parts-parts.result in take (p.content - p.header) (drop p.header c.args.frame.now)

clear-is : (c : After-write_headers) → clear-lent c ≡ clear_content (framed c.args.framing) c.args.frame.now
unfolding clear_content
clear-is c =
    let p = c.clear_parts-parts in
    slice_as_part p.result.header p.result.content c.args.frame.now
    ∙ ap (λ (x : ClearParts). slice x.header x.content c.args.frame.now) p.ensures

abbrev control-lent : After-write_headers → List ℕ
control-lent c = let p = c.clear_parts-parts.result in take (p.control - p.content) (drop p.content c.args.frame.now)

control-is : (c : After-write_headers) → control-lent c ≡ control_of (framed c.args.framing) c.args.frame.now
unfolding control_of
control-is c =
    let p = c.clear_parts-parts in
    slice_as_part p.result.content p.result.control c.args.frame.now
    ∙ ap (λ (x : ClearParts). slice x.content x.control c.args.frame.now) p.ensures

-- ---- the headers

headed : (c : After-write_headers) → let s = securing c in c.write_headers.new.output ≡ written (assembling.headers s) s.out
headed c =
    let s = securing c in
    let made = c.secured_length in
    let size = made.ensures ∙ ap (λ (x : ℕ). parts.secured_length x s.frame) (measured c).security in
    assembling.with_headers s made.result (security_lent c) c.write_headers.new.output size (security-is c) c.write_headers.ensures

-- ---- the data and its MAC

pub write_text-mac-requires-clause-security_len : goal.write_text-mac-requires-clause-security_len
write_text-mac-requires-clause-security_len c =
    let h = (goal.at.write_text-mac-requires-clause-security_len c).After-write_headers in
    let s = securing h in
    let m = measured h in
    let l = assembling.long_headers s h.write_headers.new.output (headed h) in (
      ap length (security-is h) ∙ length_security s.held s.spi s.number,
      rw (length-take, length-drop) (omega (arith, m)),
      rw (assembling.header-place s h.write_headers.new.output (headed h), length-take, length-drop) (omega (arith, m, l)),
    )

abbrev text_lent : After-write_headers → List ℕ
text_lent c = text_under c.args.held (security_lent c) (clear-lent c)

text-is : (c : After-write_headers) → text_lent c ≡ assembling.text (securing c)
text-is c = let g = c.args in ap₂ ((service_in g.held).going_out g.held.key) (field_is c) (clear-is c)

-- ---- the MAC, the control field and the check field

pub returns : goal.returns
returns c =
    let h = (goal.at.returns c).After-write_headers in
    let s = securing h in
    let m = measured h in
    let after_headers = c.write_headers.new.output in
    let after_text = c.write_text-mac.new.output in
    let texted : after_text ≡ written (assembling.to-text s) s.out =
    assembling.with_text s after_headers (headed h) (text_lent h) after_text (text-is h) c.write_text-mac.ensures.output_after
    in
    let signed : c.write_text-mac.result ≡ assembling.mac s =
    assembling.mac_made s after_headers (headed h) (drop 2 (security_lent h)) (text_lent h) c.write_text-mac.result (field_is h) (text-is h)
    c.write_text-mac.ensures.value
    in
    let after_mac = c.put_behind.new.out in
    let maced : after_mac ≡ written (assembling.to-mac s) s.out =
    assembling.with_mac s after_text texted c.write_text-mac.result after_mac signed
    (c.clear_parts-parts.result.content + c.security_length-security.result)
    (ap₂ ◌+◌ m.content m.security) c.put_behind.ensures
    in
    let after_control = c.put_behind-2.new.out in
    let copied : after_control ≡ written (assembling.to-control s) s.out =
    assembling.with_control s after_mac maced (control-lent h) after_control (control-is h)
    (c.clear_parts-parts.result.content + c.security_length-security.result + 16)
    (ap₂ (λ (x y : ℕ). x + y + 16) m.content m.security) c.put_behind-2.ensures
    in
    assembling.with_field_lem s after_control copied (c.clear_parts-parts.result.control + c.security_length-security.result + 16)
    (ap₂ (λ (x y : ℕ). x + y + 16) m.control m.security) c.close.new.output c.close.ensures
