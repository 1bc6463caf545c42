-- A frame put together of header, security header, text, MAC and trailer has them as its parts, if its kind reads the header's and the
-- trailer's length in it.
-- Assumes nothing.
use Prim.Native.Nat.{ℕ, ◌+◌, ◌≤◌}
use mathlib.Core.Path.{◌≡◌, sym, ap, ◌∙◌}
use mathlib.Core.List.{List, ◌++◌, append_assoc}
use native.Mathlib.Omega.{arith}
use lib.ListN.{length, take, drop, length-append}
use lib.Seq.{slice, take_at, drop_at}
use Rattle.kinds.specs.Kinds.{Kind, check_field_length}
use Rattle.frame.specs.Closing.{control_of}
use Rattle.frame.specs.Parts.{mac_length, header_end, security_end, mac_start, trailer_start, control_end, secured_length}
use Rattle.frame.specs.Parts.{header_of, clear_content, security_of, secured_content, mac_of}
use Rattle.frame.proofs.Room.{length_clear}

-- the part q of p, q, r
middle : (p q r : List ℕ) (a b : ℕ) → length p ≡ a → a + length q ≡ b → slice a b (p ++ (q ++ r)) ≡ q
middle p q r a b e f =
    let l = length-append p q in
    let h : length (p ++ q) ≡ b = omega arith in
    ap (λ (x : List ℕ). drop a (take b x)) (sym (append_assoc p q r)) ∙ ap (drop a) (take_at (p ++ q) r b h) ∙ drop_at p q a e

abbrev pub assembled : List ℕ → List ℕ → List ℕ → List ℕ → List ℕ → List ℕ
assembled header security text mac trailer = header ++ (security ++ (text ++ (mac ++ trailer)))

pub length_assembled : (header security text mac trailer : List ℕ)
    → length (assembled header security text mac trailer) ≡ length header + length security + length text + length mac + length trailer
length_assembled header security text mac trailer =
    let a = length-append header (security ++ (text ++ (mac ++ trailer))) in
    let b = length-append security (text ++ (mac ++ trailer)) in
    let c = length-append text (mac ++ trailer) in
    let d = length-append mac trailer in
    omega arith

-- securing puts a security header and a MAC between the parts of a clear frame, and lengthens it by these
pub length-securing : (k : Kind) (clear header security text mac trailer : List ℕ) → k.header clear + k.trailer clear ≤ length clear
    → length header ≡ k.header clear → length text ≡ length (clear_content k clear) → length mac ≡ mac_length
    → length trailer ≡ k.trailer clear → length (assembled header security text mac trailer) ≡ secured_length (length security) clear
length-securing k clear header security text mac trailer room h t m f =
    let a = length_assembled header security text mac trailer in
    let c = length_clear k clear room in
    omega arith

module _ (k : Kind) (header security text mac trailer : List ℕ) where
  abbrev frame : List ℕ
  frame = assembled header security text mac trailer

  module _ (h : length header ≡ k.header frame) (m : length mac ≡ mac_length) (f : length trailer ≡ k.trailer frame) where
    pub header_read : header_of k frame ≡ header
    unfolding header_of
    header_read = take_at header (security ++ (text ++ (mac ++ trailer))) (header_end k frame) h

    pub security_read : security_of k (length security) frame ≡ security
    unfolding security_of
    security_read =
        middle header security (text ++ (mac ++ trailer)) (header_end k frame) (security_end k (length security) frame) h (omega arith)

    before_text : frame ≡ (header ++ security) ++ (text ++ (mac ++ trailer))
    before_text = simp append_assoc

    pub text_read : secured_content k (length security) frame ≡ text
    unfolding secured_content
    text_read =
        let n = length_assembled header security text mac trailer in
        let a = length-append header security in
        ap (slice (security_end k (length security) frame) (mac_start k frame)) before_text
        ∙ middle (header ++ security) text (mac ++ trailer) (security_end k (length security) frame) (mac_start k frame) (omega arith) (omega arith)

    before-mac : frame ≡ (header ++ (security ++ text)) ++ (mac ++ trailer)
    before-mac = simp append_assoc

    pub mac_read : mac_of k frame ≡ mac
    unfolding mac_of
    mac_read =
        let n = length_assembled header security text mac trailer in
        let a = length-append header (security ++ text) in
        let b = length-append security text in
        ap (slice (mac_start k frame) (trailer_start k frame)) before-mac
        ∙ middle (header ++ (security ++ text)) mac trailer (mac_start k frame) (trailer_start k frame) (omega arith) (omega arith)

-- of a trailer in two parts, the first is the control field if the second is as long as the check field
module _ (k : Kind) (header security text mac control field : List ℕ) where
  abbrev whole : List ℕ
  whole = assembled header security text mac (control ++ field)

  pub control_read : length header ≡ k.header whole → length mac ≡ mac_length → length (control ++ field) ≡ k.trailer whole
      → length field ≡ check_field_length k.ends_in_field → control_of k whole ≡ control
  unfolding control_of
  control_read h m f l =
      let before : List ℕ = header ++ (security ++ (text ++ mac)) in
      let n = length_assembled header security text mac (control ++ field) in
      let a = length-append header (security ++ (text ++ mac)) in
      let b = length-append security (text ++ mac) in
      let c = length-append text mac in
      let d = length-append control field in
      let split : whole ≡ before ++ (control ++ field) = simp append_assoc in
      ap (slice (trailer_start k whole) (control_end k whole)) split
      ∙ middle before control field (trailer_start k whole) (control_end k whole) (omega arith) (omega arith)
