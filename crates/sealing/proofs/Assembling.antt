-- The secured frame in an output, piece behind piece: the two headers, the data as it goes out, the MAC, the control field and the check
-- field.
-- Assumes nothing.
use Prim.Native.Nat.{ℕ, ◌+◌, ◌-◌, ◌≤◌}
use mathlib.Core.Path.{◌≡◌, ap, ap₂, sym, ◌∙◌}
use mathlib.Core.List.{List, ◌++◌, append_assoc}
use native.Mathlib.Omega.{arith}
use lib.ListN.{length, take, drop, length-append, length-drop}
use lib.Seq.{slice, take_at, drop_at, drop-drop, drop-append-add}
use Rattle.kinds.specs.Kinds.{Kind, check_field_length}
use Rattle.frame.specs.Closing.{control_of, closed}
use Rattle.frame.specs.Parts.{header_of, security_of, trailer_start, control_end}
use Rattle.kinds.proofs.Kept.{Lawful}
use Rattle.frame.proofs.Assembled.{assembled}
use Rattle.frame.proofs.Closed.{made_field, length-control, closed_made}
use Rattle.frame.proofs.Room.{length_clear}
use Rattle.octets.specs.Output.{written, fronted}
use Rattle.octets.proofs.Filling.{length-written, with_room, behind}
use Rattle.association.specs.declared.held.Held.{Held}
use Rattle.services.specs.SecurityHeader.{service_in, security_length, field_for}
use Rattle.protection.specs.Protection.{covered_in, secured_length, secured_frame}
use Rattle.protection.proofs.Wire as wire

-- a clear frame with its parts, what it is secured under, and an output with room for the result
pub record Securing : Type 0 where
  pub held : Held
  pub kind : Kind
  pub law : Lawful kind
  pub spi : ℕ
  pub number : ℕ
  pub frame : List ℕ
  pub out : List ℕ
  pub parted : kind.header frame + kind.trailer frame ≤ length frame
  pub roomy : secured_length held frame ≤ length out

-- a text over a shorter one hides it
written_over : (t u out : List ℕ) → length t ≤ length u → written u (written t out) ≡ written u out
written_over t u out h =
    let n : ℕ = length u - length t in
    let e : length u ≡ length t + n = omega arith in
    ap (λ (x : ℕ). u ++ drop x (written t out)) e
    ∙ ap (λ (r : List ℕ). u ++ r) (drop-append-add t (drop (length t) out) n ∙ drop-drop n (length t) out)
    ∙ ap (λ (x : ℕ). u ++ drop x out) (sym e)

-- ---- the text so far: the headers, then the data, then the MAC

abbrev pub header : Securing → List ℕ
header s = wire.head s.held s.kind s.frame

abbrev pub security : Securing → List ℕ
security s = wire.security s.held s.spi s.number

abbrev pub headers : Securing → List ℕ
headers s = header s ++ security s

abbrev pub text : Securing → List ℕ
text s = wire.text s.held s.kind s.number s.frame

abbrev pub to-text : Securing → List ℕ
to-text s = headers s ++ text s

abbrev pub mac : Securing → List ℕ
mac s = wire.mac s.held s.kind s.spi s.number s.frame

abbrev pub to-mac : Securing → List ℕ
to-mac s = to-text s ++ mac s

abbrev pub to-control : Securing → List ℕ
to-control s = to-mac s ++ control_of s.kind s.frame

module _ (s : Securing) where
  abbrev k : Kind
  k = s.kind

  abbrev after_headers : ℕ
  after_headers = k.header s.frame + security_length s.held

  abbrev after_text : ℕ
  after_text = trailer_start k s.frame + security_length s.held

  length-header : length (header s) ≡ k.header s.frame
  length-header = wire.length_head s.held k s.law s.frame s.parted

  length_headers : length (headers s) ≡ after_headers
  length_headers =
      let a = length-append (header s) (security s) in
      let b = wire.length_security s.held s.spi s.number in
      let c = length-header in
      omega arith

  length-to-text : length (to-text s) ≡ after_text
  length-to-text =
      let a = length-append (headers s) (text s) in
      let b = length_headers in
      let c = wire.length-text s.held k s.number s.frame in
      let d = length_clear k s.frame s.parted in
      omega (arith, s.parted)

  length-to-mac : length (to-mac s) ≡ after_text + 16
  length-to-mac =
      let a = length-append (to-text s) (mac s) in
      let b = length-to-text in
      let c = wire.length-mac s.held k s.spi s.number s.frame in
      omega arith

  control-long : length (control_of k s.frame) + check_field_length k.ends_in_field ≡ k.trailer s.frame
  control-long = length-control k s.frame s.parted (s.law.counted s.frame)

  length-to-control : length (to-control s) ≡ control_end k s.frame + security_length s.held + 16
  length-to-control =
      let a = length-append (to-mac s) (control_of k s.frame) in
      let b = length-to-mac in
      let c = control-long in
      omega (arith, s.parted)

  -- the pieces so far fit, so the output keeps its length
  long : (t whole : List ℕ) → whole ≡ written t s.out → length t ≤ secured_length s.held s.frame → length whole ≡ length s.out
  long t whole w l = let r = s.roomy in ap length w ∙ length-written t s.out (omega arith)

  pub with_headers : (size : ℕ) (octets result : List ℕ) → size ≡ secured_length s.held s.frame → octets ≡ security s
      → result ≡ written (k.with_length size (header_of k s.frame) ++ octets) s.out → result ≡ written (headers s) s.out
  with_headers size octets result e f r =
      r ∙ ap₂ (λ (x : ℕ) (y : List ℕ). written (k.with_length x (header_of k s.frame) ++ y) s.out) e f

  -- a piece goes behind what stands, which is `whole`
  module _ (whole piece result : List ℕ) where
    next : (a : ℕ) (t p : List ℕ) → whole ≡ written t s.out → length t ≡ a → a + length p ≤ length s.out → piece ≡ p
        → result ≡ take a whole ++ fronted piece (drop a whole) → result ≡ written (t ++ p) s.out
    next a t p w l room e r = r ∙ ap (λ (x : List ℕ). take a whole ++ fronted x (drop a whole)) e ∙ behind a t p s.out whole l room w

  module _ (whole : List ℕ) where
    module _ (w : whole ≡ written (headers s) s.out) where
      pub long_headers : length whole ≡ length s.out
      long_headers = let l = length_headers in long (headers s) whole w (omega (arith, s.parted))

      -- where the headers stand, the kind reads them
      rest : List ℕ
      rest = security s ++ drop (length (headers s)) s.out

      as_built : whole ≡ header s ++ rest
      unfolding rest
      as_built = w ∙ append_assoc (header s) (security s) (drop (length (headers s)) s.out)

      pub header-place : k.header whole ≡ k.header s.frame
      unfolding header_of
      header-place =
          ap k.header as_built ∙ s.law.same_header (secured_length s.held s.frame) s.frame rest (omega (arith, s.parted))

      pub header_read : header_of k whole ≡ header s
      unfolding header_of
      header_read =
          ap (λ (x : ℕ). take x whole) header-place
          ∙ ap (take (k.header s.frame)) as_built
          ∙ take_at (header s) rest (k.header s.frame) length-header

      pub security_read : security_of k (security_length s.held) whole ≡ security s
      unfolding security_of
      security_read =
          ap (λ (x : ℕ). slice x (x + security_length s.held) whole) header-place
          ∙ ap (slice (k.header s.frame) after_headers) w
          ∙ ap (drop (k.header s.frame)) (take_at (headers s) (drop (length (headers s)) s.out) after_headers length_headers)
          ∙ drop_at (header s) (security s) (k.header s.frame) length-header

      pub with_text : (piece result : List ℕ) → piece ≡ text s → let a = k.header whole + security_length s.held in
          result ≡ take a whole ++ written piece (drop a whole) → result ≡ written (to-text s) s.out
      with_text piece result e r =
          let a = k.header whole + security_length s.held in
          let place = ap (λ (x : ℕ). x + security_length s.held) header-place in
          let l = length-to-text in
          let b = length-append (headers s) (text s) in
          let c = length_headers in
          let room : a + length (text s) ≤ length s.out = omega (arith, place, s.roomy) in
          let lent : length piece ≤ length (drop a whole) = simp length-drop (omega (arith, ap length e, long_headers)) in
          next whole piece result a (headers s) (text s) w (length_headers ∙ sym place) room e
          (r ∙ ap (λ (x : List ℕ). take a whole ++ x) (sym (with_room piece (drop a whole) lent)))

      pub mac_made : (field piece result : List ℕ) → field ≡ field_for s.held s.number → piece ≡ text s
          → result ≡ (service_in s.held).mac s.held.key field (covered_in s.held k whole) piece → result ≡ mac s
      mac_made field piece result e f r = cc (header_read, security_read)

    module _ (w : whole ≡ written (to-text s) s.out) where
      pub long-text : length whole ≡ length s.out
      long-text = let l = length-to-text in long (to-text s) whole w (omega (arith, s.parted))

      pub with_mac : (piece result : List ℕ) → piece ≡ mac s → (a : ℕ) → a ≡ after_text
          → result ≡ take a whole ++ fronted piece (drop a whole) → result ≡ written (to-mac s) s.out
      with_mac piece result e a f r =
          let c = wire.length-mac s.held k s.spi s.number s.frame in
          next whole piece result a (to-text s) (mac s) w (length-to-text ∙ sym f) (omega (arith, s.roomy, s.parted)) e r

    module _ (w : whole ≡ written (to-mac s) s.out) where
      pub long-mac : length whole ≡ length s.out
      long-mac = let l = length-to-mac in long (to-mac s) whole w (omega (arith, s.parted))

      pub with_control : (piece result : List ℕ) → piece ≡ control_of k s.frame → (a : ℕ) → a ≡ after_text + 16
          → result ≡ take a whole ++ fronted piece (drop a whole) → result ≡ written (to-control s) s.out
      with_control piece result e a f r =
          let c = control-long in
          next whole piece result a (to-mac s) (control_of k s.frame) w (length-to-mac ∙ sym f) (omega (arith, s.roomy, s.parted)) e r

    module _ (w : whole ≡ written (to-control s) s.out) where
      pub long-control : length whole ≡ length s.out
      long-control = let l = length-to-control in long (to-control s) whole w (omega (arith, s.parted))

      -- closing what stands closes all the pieces
      pub with_field_lem : (a : ℕ) → a ≡ control_end k s.frame + security_length s.held + 16 → (result : List ℕ)
          → result ≡ written (closed k (take a whole)) whole
          → result ≡ written (secured_frame s.held k s.spi s.number s.frame) s.out
      unfolding secured_frame
      with_field_lem a e result r =
          let front : take a whole ≡ to-control s =
          ap (take a) w ∙ take_at (to-control s) (drop (length (to-control s)) s.out) a (length-to-control ∙ sym e)
          in
          let pieces : to-control s ≡ assembled (header s) (security s) (text s) (mac s) (control_of k s.frame) = simp append_assoc in
          let over = length-append (to-control s) (made_field k (to-control s)) in
          r
          ∙ ap (λ (t : List ℕ). written (closed k t) whole) front
          ∙ ap (written (closed k (to-control s))) w
          ∙ written_over (to-control s) (closed k (to-control s)) s.out (omega (arith, ap length (closed_made k (to-control s))))
          ∙ ap (λ (t : List ℕ). written (closed k t) s.out) pieces
