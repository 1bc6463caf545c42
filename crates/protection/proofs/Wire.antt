-- What a secured frame is to its reader: it has the length that was promised, obeys its kind, keeps the clear frame's identifiers, and
-- holds the SPI, the number, a right MAC, the clear data, the clear frame's control field and a right check field, under any service and any
-- kind.
-- Assumes nothing.
use Prim.Native.Nat.{ℕ, ◌+◌, ◌-◌, ◌^◌, ◌≤◌, ◌<◌}
use mathlib.Core.Path.{◌≡◌, sym, ap, ap₂, ◌∙◌}
use mathlib.Core.Bool.{true, false, cond}
use mathlib.Core.List.{List, ◌++◌, append_assoc}
use native.Mathlib.Omega.{arith}
use native.Mathlib.Nat.{add-zero}
use borrow.Author.Tests.{le-ltb}
use lib.Dec.{eqb}
use lib.ListN.{length, take, drop, length-append}
use lib.Seq.{slice, drop_at, get_or-drop, get_or-take}
use Rattle.octets.specs.Lists.{octet}
use Rattle.octets.specs.Numbers.{number, number_at, bytes}
use Rattle.octets.proofs.Numbers.{length-bytes, number-bytes, number-front, number_same}
use Rattle.octets.proofs.Sameness.{same_refl}
use Rattle.kinds.specs.Kinds.{Kind}
use Rattle.frame.specs.Parts as parts
use Rattle.frame.specs.Closing.{control_of, field_ok}
use Rattle.frame.specs.Parts.{header_of, security_of, secured_content, mac_of, too_short}
use Rattle.frame.specs.Rules.{obeys}
use Rattle.frame.proofs.Assembled as assembled
use Rattle.kinds.proofs.Kept as frames
use Rattle.kinds.proofs.Kept.{Kept, built}
use Rattle.frame.proofs.Rebuilt.{obeys_again}
use Rattle.frame.proofs.Closed.{made_field, length_made, length-control, closed_ok, closed_assembled}
use Rattle.frame.proofs.Room.{Obeys, obeyed, length-header}
use Rattle.association.specs.declared.held.Held.{Held}
use Rattle.services.specs.SecurityHeader.{service_in, security_length, field_under, field_for, number_under, number_from}
use Rattle.services.specs.Services.{service as numbered}
use Rattle.protection.specs.Protection.{covered_before, secured_length, secured_frame}
use Rattle.protection.specs.Protection.{covered_in, spi_in, field_in, text_in, number_in, mac_right, clear_data, clear_length}
use Rattle.services.proofs.ServiceLaws.{Lawful, lawful, length-field, number_back, alike-field}

-- ---- where a reader finds the number, in any frame, and how long the clear data is

in_field : (a size : ℕ) (frame : List ℕ) (from n : ℕ) → from + n ≤ size
    → number n (drop from (drop 2 (slice a (a + (2 + size)) frame))) ≡ number_at (a + 2 + from) n frame
in_field a size frame from n h =
    let b : ℕ = a + (2 + size) in
    number_same n (drop from (drop 2 (slice a b frame))) (drop (a + 2 + from) frame)
    (λ i l.
    let z : a + (2 + (from + i)) ≡ a + 2 + from + i = omega arith in
    get_or-drop from (drop 2 (slice a b frame)) i 0
    ∙ get_or-drop 2 (slice a b frame) (from + i) 0
    ∙ get_or-drop a (take b frame) (2 + (from + i)) 0
    ∙ get_or-take b frame (a + (2 + (from + i))) 0 (omega arith)
    ∙ ap (octet frame) z
    ∙ sym (get_or-drop (a + 2 + from) frame i 0))

pub number_read : (h : Held) (k : Kind) (frame : List ℕ) → let s = service_in h in let a = k.header frame + 2 in
    number_in h k frame
    ≡ cond (eqb (number_at a s.named frame) (number s.named (bytes s.named h.naming))) (number_at (a + s.named) (s.field - s.named) frame) 0
unfolding number_in field_in security_of number_under
number_read h k frame =
    let s = service_in h in
    let a : ℕ = k.header frame in
    let l : Lawful s = lawful h.service in
    let opening : number s.named (drop 2 (slice a (a + (2 + s.field)) frame)) ≡ number_at (a + 2) s.named frame =
    in_field a s.field frame 0 s.named (omega arith) ∙ ap (λ (p : ℕ). number_at p s.named frame) (add-zero (a + 2))
    in
    ap₂ (λ (x y : ℕ). cond (eqb x (number s.named (bytes s.named h.naming))) y 0) opening
    (in_field a s.field frame s.named (s.field - s.named) (omega arith))

-- the clear data is as long as the data that came in
pub length_clear_data : (h : Held) (k : Kind) (frame : List ℕ) → length (clear_data h k frame) ≡ clear_length h k frame
unfolding clear_data clear_length
length_clear_data h k frame = (lawful h.service).length_in h.key (field_in h k frame) (text_in h k frame)

-- ---- the parts, as securing makes them

abbrev pub head : Held → Kind → List ℕ → List ℕ
head h k clear = k.with_length (secured_length h clear) (header_of k clear)

abbrev pub security : Held → ℕ → ℕ → List ℕ
security h spi n = bytes 2 spi ++ field_for h n

abbrev pub text : Held → Kind → ℕ → List ℕ → List ℕ
text h k n clear = (service_in h).going_out h.key (field_for h n) (parts.clear_content k clear)

abbrev pub mac : Held → Kind → ℕ → ℕ → List ℕ → List ℕ
mac h k spi n clear =
    (service_in h).mac h.key (field_for h n) (covered_before h (head h k clear) (security h spi n)) (text h k n clear)

-- all but the check field, and the trailer that it closes: the control field, copied, and the check field, made
abbrev front : Held → Kind → ℕ → ℕ → List ℕ → List ℕ
front h k spi n clear =
    assembled.assembled (head h k clear) (security h spi n) (text h k n clear) (mac h k spi n clear) (control_of k clear)

abbrev trailer : Held → Kind → ℕ → ℕ → List ℕ → List ℕ
trailer h k spi n clear = control_of k clear ++ made_field k (front h k spi n clear)

as_assembled : (h : Held) (k : Kind) (spi n : ℕ) (clear : List ℕ)
    → secured_frame h k spi n clear
    ≡ assembled.assembled (head h k clear) (security h spi n) (text h k n clear) (mac h k spi n clear) (trailer h k spi n clear)
unfolding secured_frame
as_assembled h k spi n clear =
    closed_assembled k (head h k clear) (security h spi n) (text h k n clear) (mac h k spi n clear) (control_of k clear)

pub length_security : (h : Held) (spi n : ℕ) → length (security h spi n) ≡ security_length h
length_security h spi n = length-append (bytes 2 spi) (field_for h n) ∙ ap₂ ◌+◌ (length-bytes 2 spi) (length-field (service_in h) (lawful h.service) h.naming n)

pub length-text : (h : Held) (k : Kind) (n : ℕ) (clear : List ℕ) → length (text h k n clear) ≡ length (parts.clear_content k clear)
length-text h k n clear = (lawful h.service).length_out h.key (field_for h n) (parts.clear_content k clear)

pub length-mac : (h : Held) (k : Kind) (spi n : ℕ) (clear : List ℕ) → length (mac h k spi n clear) ≡ 16
length-mac h k spi n clear =
    (lawful h.service).length_mac h.key (field_for h n) (covered_before h (head h k clear) (security h spi n)) (text h k n clear)

module _ (h : Held) (k : Kind) (law : frames.Lawful k) (clear : List ℕ) (room : k.header clear + k.trailer clear ≤ length clear) where
  pub length_head : length (head h k clear) ≡ k.header clear
  length_head = law.long (secured_length h clear) (header_of k clear) ∙ length-header k clear room

  length-trailer : (spi n : ℕ) → length (trailer h k spi n clear) ≡ k.trailer clear
  length-trailer spi n =
      let a = length-append (control_of k clear) (made_field k (front h k spi n clear)) in
      let b = length-control k clear room (law.counted clear) in
      let c = length_made k (front h k spi n clear) in
      omega arith

  pub length_whole : (spi n : ℕ) → length (secured_frame h k spi n clear) ≡ secured_length h clear
  length_whole spi n =
      ap length (as_assembled h k spi n clear)
      ∙ assembled.length-securing k clear (head h k clear) (security h spi n) (text h k n clear) (mac h k spi n clear)
      (trailer h k spi n clear) room length_head (length-text h k n clear) (length-mac h k spi n clear) (length-trailer spi n)
      ∙ ap (λ (s : ℕ). parts.secured_length s clear) (length_security h spi n)

-- ---- a secured frame, under any lawful kind

module _ (h : Held) (k : Kind) (lawfully : frames.Lawful k) (spi n : ℕ) (clear : List ℕ) (obeying : obeys k clear false ≡ true)
    (small : secured_length h clear ≤ k.largest) where
  abbrev S : List ℕ
  S = secured_frame h k spi n clear

  ok : Obeys k clear false
  ok = obeyed k clear false obeying

  law : Lawful (service_in h)
  law = lawful h.service

  room : k.header clear + k.trailer clear ≤ length clear
  room = omega (arith, ok.room)

  rest : List ℕ
  rest = security h spi n ++ (text h k n clear ++ (mac h k spi n clear ++ trailer h k spi n clear))

  shape : S ≡ head h k clear ++ rest
  unfolding rest
  shape = as_assembled h k spi n clear

  long-mac : length (mac h k spi n clear) ≡ 16
  long-mac = length-mac h k spi n clear

  pub length-secured : length S ≡ secured_length h clear
  length-secured = length_whole h k lawfully clear room spi n

  shape_built : S ≡ built k (secured_length h clear) clear rest
  unfolding header_of
  shape_built = shape

  long_built : length (built k (secured_length h clear) clear rest) ≡ secured_length h clear
  long_built = ap length (sym shape_built) ∙ length-secured

  pub kept : Kept k clear S
  kept =
      rw shape_built
      (lawfully.keeps (secured_length h clear) clear rest ok.rules (omega (arith, room)) long_built (omega arith) small)

  pub obeys-secured : obeys k S true ≡ true
  obeys-secured =
      rw shape_built (obeys_again k lawfully (secured_length h clear) clear rest false true obeying long_built small (omega (arith, ok.room)))

  -- ---- the parts, as a reader cuts them out

  -- as it is assembled, with the trailer that it is closed with
  abbrev A : List ℕ
  A = assembled.assembled (head h k clear) (security h spi n) (text h k n clear) (mac h k spi n clear) (trailer h k spi n clear)

  is-A : S ≡ A
  is-A = as_assembled h k spi n clear

  at_head : length (head h k clear) ≡ k.header A
  at_head = length_head h k lawfully clear room ∙ sym kept.header ∙ ap k.header is-A

  at-trailer : length (trailer h k spi n clear) ≡ k.trailer A
  at-trailer = length-trailer h k lawfully clear room spi n ∙ sym kept.trailer ∙ ap k.trailer is-A

  pub header_read : header_of k S ≡ head h k clear
  header_read =
      ap (header_of k) is-A
      ∙ assembled.header_read k (head h k clear) (security h spi n) (text h k n clear) (mac h k spi n clear) (trailer h k spi n clear) at_head
      long-mac at-trailer

  security_read : security_of k (security_length h) S ≡ security h spi n
  security_read =
      ap (λ (s : ℕ). security_of k s S) (sym (length_security h spi n))
      ∙ ap (security_of k (length (security h spi n))) is-A
      ∙ assembled.security_read k (head h k clear) (security h spi n) (text h k n clear) (mac h k spi n clear) (trailer h k spi n clear) at_head
      long-mac at-trailer

  pub text_read : text_in h k S ≡ text h k n clear
  unfolding text_in
  text_read =
      ap (λ (s : ℕ). secured_content k s S) (sym (length_security h spi n))
      ∙ ap (secured_content k (length (security h spi n))) is-A
      ∙ assembled.text_read k (head h k clear) (security h spi n) (text h k n clear) (mac h k spi n clear) (trailer h k spi n clear) at_head
      long-mac at-trailer

  mac_read : mac_of k S ≡ mac h k spi n clear
  mac_read =
      ap (mac_of k) is-A
      ∙ assembled.mac_read k (head h k clear) (security h spi n) (text h k n clear) (mac h k spi n clear) (trailer h k spi n clear) at_head
      long-mac at-trailer

  -- the control field is copied, and the check field is right
  pub control_read : control_of k S ≡ control_of k clear
  control_read =
      ap (control_of k) is-A
      ∙ assembled.control_read k (head h k clear) (security h spi n) (text h k n clear) (mac h k spi n clear) (control_of k clear)
      (made_field k (front h k spi n clear)) at_head long-mac at-trailer (length_made k (front h k spi n clear))

  pub field-right : field_ok k S ≡ true
  unfolding secured_frame
  field-right = closed_ok k (front h k spi n clear)

  pub field_read : field_in h k S ≡ field_for h n
  unfolding field_in
  field_read = ap (drop 2) security_read ∙ drop_at (bytes 2 spi) (field_for h n) 2 (length-bytes 2 spi)

  -- ---- what it says

  pub right-secured : mac_right h k S ≡ true
  unfolding mac_right
  right-secured = rw (covered_in, header_read, security_read, field_read, text_read, mac_read) (same_refl (mac h k spi n clear))

  pub number-secured : n < 2 ^ 32 → number_in h k S ≡ n
  unfolding number_in
  number-secured small-number = ap (number_from h) field_read ∙ number_back (service_in h) law h.naming n small-number

  pub data_secured : clear_data h k S ≡ parts.clear_content k clear
  unfolding clear_data
  data_secured = ap₂ ((service_in h).coming_in h.key) field_read text_read ∙ law.back h.key (field_for h n) (parts.clear_content k clear)

  pub length_data : clear_length h k S ≡ length (parts.clear_content k clear)
  unfolding clear_length
  length_data = ap length text_read ∙ length-text h k n clear

  pub not_short : too_short k (security_length h) S ≡ false
  not_short =
      let l = length-secured in
      let a = kept.header in
      let f = kept.trailer in
      le-ltb (length S) (k.header S + security_length h + 1 + 16 + k.trailer S) (omega (arith, ok.room))

  pub spi-secured : spi < 2 ^ 16 → spi_in k S ≡ spi
  unfolding rest
  spi-secured small-spi =
      ap (number 2) (ap (drop (k.header S)) shape ∙ drop_at (head h k clear) rest (k.header S) (at_head ∙ ap k.header (sym is-A)) ∙ append_assoc (bytes 2 spi) _ _)
      ∙ number-front 2 (bytes 2 spi) _ (length-bytes 2 spi)
      ∙ number-bytes 2 spi (omega arith)

-- ---- what an association holds beside service, mask, key and, under service 2, what names it does not show in a frame

pub alike-frame : (h g : Held) (k : Kind) (spi n : ℕ) (clear : List ℕ) → g.service ≡ h.service → g.mask ≡ h.mask → g.key ≡ h.key
    → (h.service ≡ 2 → g.naming ≡ h.naming) → secured_frame h k spi n clear ≡ secured_frame g k spi n clear
unfolding secured_frame covered_before
alike-frame h g k spi n clear service mask key naming =
    let field : field_for g n ≡ field_for h n =
    ap (λ (x : ℕ). field_under (numbered x) g.naming n) service ∙ alike-field h.service g.naming h.naming n naming
    in
    cc
