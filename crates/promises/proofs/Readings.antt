-- What the definitions ask of a frame, and read in a clear one or, under what an association holds, in a secured one, is what the promises
-- read in its octets: the kind's record described with its form.
-- Assumes nothing.
use Prim.Native.Nat.{ℕ, ◌+◌, ◌-◌, ◌*◌, ◌^◌, ◌≤◌, ◌<◌}
use mathlib.Core.Path.{◌≡◌, refl, sym, ap, ap₂, ◌∙◌}
use mathlib.Core.Logic.{◌≢◌}
use mathlib.Core.Bool.{Bool, true, false, ◌&&◌, ◌||◌, not, cond, and-false, true≢false}
use mathlib.Core.List.{List, ◌++◌}
use native.Mathlib.Decide.{ℕ_discrete}
use native.Mathlib.Nat.{add-zero}
use native.Mathlib.Omega.{arith}
use borrow.Author.Tests.{eq-eqb, ne_eqb}
use lib.Dec.{eqb}
use lib.ListN.{length, take, drop}
use lib.Seq.{slice, get_or-drop, get_or-take}
use Rattle.octets.specs.Lists.{octet}
use Rattle.octets.specs.Numbers.{number, number_at, bytes}
use Rattle.octets.specs.Same.{same}
use Rattle.octets.proofs.Alls.{and_left, and_right}
use Rattle.octets.proofs.Numbers.{number-bytes, number_same}
use Rattle.octets.proofs.Reading.{number_at-add}
use Rattle.octets.proofs.Sameness.{same_refl, same_eq}
use Rattle.check_field.specs.CheckField.{check_field, right_field}
use Rattle.check_field.proofs.Laws.{field-take}
use Rattle.kinds.specs.Kinds.{kind_of}
use Rattle.cmac.specs.Mac.{cmac}
use Rattle.gcm.specs.Decryption.{plaintext}
use Rattle.gcm.specs.Encryption.{ciphertext, tag}
use Rattle.frame.specs.Closing.{control_of, field_ok}
use Rattle.masking.specs.Masked.{masked}
use Rattle.frame.specs.Parts.{header_of, clear_content, security_of, secured_content, mac_of}
use Rattle.frame.specs.Rules.{least, obeys}
use Rattle.frame.proofs.Room.{obeyed, obeying}
use Rattle.association.specs.declared.held.Held.{Held}
use Rattle.numbers.specs.Numbers.{greatest}
use Rattle.services.specs.SecurityHeader.{security_length}
use Rattle.protection.specs.Protection.{covered_before, spi_in, field_in, text_in, number_in, mac_right}
use Rattle.services.specs.Services.{authentication, authenticated_encryption, service}
use Rattle.services.proofs.Chosen.{encrypts, signs}
use Rattle.judging.specs.Said.{Said, kind_said}
use Rattle.protection.proofs.Wire.{number_read}
use Rattle.promises.specs.Forms.{form_said, under_mask}
use Rattle.promises.specs.Frames.{header_size, check_field_size, trailer_size, before_field, control_on, data_in_clear, field_size, security_size, spi_on, field_on, number_on}
use Rattle.promises.specs.Frames.{text_on, mac_on, going_out, coming_in, right_mac, FrameRules, RightField, Opens}
use Rattle.promises.specs.Versions.{Shape, names_spi}
use Rattle.promises.proofs.Forms.{Describes, described, under_mask_lem}

-- ---- header and trailer, and the rules of a frame, answer 3

-- whether a check field is absent or may be there
abbrev may : Said → Bool
may said = not said.field || (kind_of said.kind).may_end_in_field

present_so : (present allowed : Bool) → (not present || allowed) ≡ true → present ≡ true → allowed ≡ true
present_so true allowed e p = e
present_so false allowed e p = let z : ◌≡◌ {A = ℕ} 0 1 = cc in absurd (omega arith)

allowed_so : (present allowed : Bool) → (present ≡ true → allowed ≡ true) → (not present || allowed) ≡ true
allowed_so true allowed h = h refl
allowed_so false allowed h = refl

module _ (said : Said) where
  pub form : Describes (form_said said) (kind_of said.kind)
  form = described said.kind

  pub header-size : (frame : List ℕ) → header_size said frame ≡ (kind_said said).header frame
  header-size = form.header

  pub trailer-size : (frame : List ℕ) → trailer_size said frame ≡ (kind_said said).trailer frame
  trailer-size frame = ap (λ (f : ℕ). f + check_field_size said) (form.trailer frame)

  module _ (frame : List ℕ) (secured : Bool) where
    pub frame-kept : obeys (kind_said said) frame secured ≡ true → FrameRules said frame (least secured)
    frame-kept e =
        let o = obeyed (kind_said said) frame secured e in
        record {
          header = form.kept frame (and_left _ (may said) o.rules) o.length_ok;
          largest = rw form.largest o.largest;
          smallest = rw (header-size frame, trailer-size frame) o.room;
          ending = λ present. form.ending ∙ present_so said.field _ (and_right ((kind_of said.kind).rules frame) _ o.rules) present;
        }

    pub frame_tested : FrameRules said frame (least secured) → obeys (kind_said said) frame secured ≡ true
    frame_tested f =
        let t = form.tested frame f.header in
        obeying (kind_said said) frame secured
        (record {
          rules = ap₂ ◌&&◌ t.0 (allowed_so said.field _ (λ present. sym form.ending ∙ f.ending present));
          length_ok = t.1;
          largest = rw (← form.largest) f.largest;
          room = rw (← header-size frame, ← trailer-size frame) f.smallest;
        })

  -- ---- the check field, answer 12

  module _ (frame : List ℕ) where
    -- the field of the octets before it, as a list of those
    of_front : right_field frame ≡ same (drop (length frame - 2) frame) (bytes 2 (check_field (take (length frame - 2) frame)))
    unfolding right_field
    of_front = rw (field-take (length frame - 2) frame (omega arith))

    pub field-kept : field_ok (kind_said said) frame ≡ true → RightField said frame
    unfolding field_ok
    field-kept e = record { right = λ present. by_presence present e }
      where
        by_presence : said.field ≡ true → (not said.field || right_field frame) ≡ true
            → drop (before_field said frame) frame ≡ bytes 2 (check_field (take (before_field said frame) frame))
        by_presence present ok = rw present (same_eq _ _ (sym of_front ∙ present_so said.field (right_field frame) ok present))

    pub field_tested : RightField said frame → field_ok (kind_said said) frame ≡ true
    unfolding field_ok
    field_tested f =
        allowed_so said.field (right_field frame)
        (λ present.
        let e : drop (length frame - 2) frame ≡ bytes 2 (check_field (take (length frame - 2) frame)) = rw present at (f.right present) in
        of_front ∙ rw e (same_refl (bytes 2 (check_field (take (length frame - 2) frame)))))

  -- ---- the operational control field

  pub control_on_lem : (frame : List ℕ) → control_on said frame ≡ control_of (kind_said said) frame
  unfolding control_of
  control_on_lem frame = rw (trailer-size frame)

  -- ---- a clear frame

  pub data_in_clear_lem : (frame : List ℕ) → data_in_clear said frame ≡ clear_content (kind_said said) frame
  unfolding clear_content
  data_in_clear_lem frame = rw (header-size frame, trailer-size frame)

-- ---- a secured frame

pub field-size : (number : ℕ) → (service number).field ≡ field_size number
unfolding service
field-size number = by_test (eqb number 2)
  where
    by_test : (t : Bool) → (cond t authenticated_encryption authentication).field ≡ cond t 12 4
    by_test true = refl
    by_test false = refl

pub spi_on_lem : (said : Said) (frame : List ℕ) → spi_on said frame ≡ spi_in (kind_said said) frame
spi_on_lem said frame = rw (header-size said frame)

module _ (h : Held) (said : Said) (frame : List ℕ) where
  pub security_size_lem : security_length h ≡ security_size h.service
  security_size_lem = ap (λ (n : ℕ). 2 + n) (field-size h.service)

  pub text_on_lem : text_in h (kind_said said) frame ≡ text_on h.service said frame
  unfolding text_in secured_content
  text_on_lem =
      rw (header-size said frame, trailer-size said frame)
      (ap (λ (n : ℕ). slice ((kind_said said).header frame + n) (length frame - (kind_said said).trailer frame - 16) frame) security_size_lem)

  pub field_on_lem : field_in h (kind_said said) frame ≡ field_on h.service said frame
  unfolding field_in security_of
  field_on_lem =
      let a : ℕ = (kind_said said).header frame in
      rw (header-size said frame) (ap (λ (n : ℕ). drop 2 (slice a (a + n) frame)) security_size_lem)

  -- under either service
  made : (t : Bool) (mask key : List ℕ) (a b : ℕ) → masked mask (take a frame) ≡ under_mask mask (take a frame)
      → let s = cond t authenticated_encryption authentication in
      let old = slice a (a + (2 + s.field)) frame in
      let new = slice a (a + (2 + cond t 12 4)) frame in
      let before = under_mask mask (take a frame) ++ new in
      let text = slice (a + (2 + cond t 12 4)) b frame in
      s.mac key (drop 2 old) (masked mask (take a frame) ++ old) (slice (a + (2 + s.field)) b frame)
      ≡ cond t (tag key (drop 2 new) before text) (cmac key (before ++ text))
  made true mask key a b under = rw under
  made false mask key a b under = rw under

  -- the mask of an entry has six octets
  pub mac-right : length h.mask ≡ 6
      → mac_right h (kind_said said) frame ≡ same (right_mac h.service said h.mask h.key frame) (mac_on said frame)
  unfolding mac_right covered_before field_in text_in header_of security_of secured_content mac_of service
  mac-right six =
      let k = kind_said said in
      let end : ℕ = length frame - k.trailer frame in
      rw (header-size said frame, trailer-size said frame)
      (ap (λ (m : List ℕ). same m (slice (end - 16) end frame))
      (made (eqb h.service 2) h.mask h.key (k.header frame) (end - 16)
      (under_mask_lem h.mask (take (k.header frame) frame) six)))

-- ---- numbers read in the field are read in the frame

pub field-number : (said : Said) (frame : List ℕ) (from n : ℕ) → from + n ≤ 12
    → number_at from n (field_on 2 said frame) ≡ number_at (header_size said frame + (2 + from)) n frame
field-number said frame from n h =
    let a : ℕ = header_size said frame in
    let b : ℕ = a + 14 in
    number_same n (drop from (field_on 2 said frame)) (drop (a + (2 + from)) frame)
    (λ i l.
    let z : a + (2 + (from + i)) ≡ a + (2 + from) + i = omega arith in
    get_or-drop from (field_on 2 said frame) i 0
    ∙ get_or-drop 2 (slice a b frame) (from + i) 0
    ∙ get_or-drop a (take b frame) (2 + (from + i)) 0
    ∙ get_or-take b frame (a + (2 + (from + i))) 0 (omega arith)
    ∙ ap (octet frame) z
    ∙ sym (get_or-drop (a + (2 + from)) frame i 0))

-- ---- its number, under what names the association

module _ (h : Held) (said : Said) (frame : List ℕ) where
  abbrev at : ℕ
  at = header_size said frame

  abbrev n : ℕ
  n = number_in h (kind_said said) frame

  signed : h.service ≢ 2 → n ≡ number_at (at + 2) 4 frame
  unfolding number
  signed other =
      number_read h (kind_said said) frame ∙ rw (signs h.service other, ← header-size said frame) (ap (λ (p : ℕ). number_at p 4 frame) (add-zero (at + 2)))

  encrypted : h.service ≡ 2 → h.naming < 2 ^ 16
      → n ≡ cond (eqb (number_at (at + 2) 4 frame) h.naming) (number_at (at + 6) 4 frame * 4294967296 + number_at (at + 10) 4 frame) 0
  encrypted two small =
      let p : at + 2 + 4 ≡ at + 6 = omega arith in
      let q : at + 6 + 4 ≡ at + 10 = omega arith in
      number_read h (kind_said said) frame
      ∙ rw (encrypts h.service two, ← header-size said frame, number-bytes 4 h.naming (omega arith))
      (ap (λ (x : ℕ). cond (eqb (number_at (at + 2) 4 frame) h.naming) x 0)
      (ap (λ (b : ℕ). number_at b 8 frame) p
      ∙ number_at-add (at + 6) 4 4 frame
      ∙ ap (λ (c : ℕ). number_at (at + 6) 4 frame * 4294967296 + number_at c 4 frame) q))

  -- the IV as one number
  in_three : number_at (at + 2) 12 frame
      ≡ (number_at (at + 2) 4 frame * 4294967296 + number_at (at + 6) 4 frame) * 4294967296 + number_at (at + 10) 4 frame
  in_three =
      let p : at + 2 + 4 ≡ at + 6 = omega arith in
      let q : at + 2 + 8 ≡ at + 10 = omega arith in
      number_at-add (at + 2) 8 4 frame
      ∙ ap₂ (λ (x c : ℕ). x * 4294967296 + number_at c 4 frame)
      (number_at-add (at + 2) 4 4 frame ∙ ap (λ (b : ℕ). number_at (at + 2) 4 frame * 4294967296 + number_at b 4 frame) p) q

  module _ (shape : Shape) (spi : ℕ) (small : spi < 2 ^ 16) (naming : h.naming ≡ cond shape.key_part spi 0) where
    small_name : (t : Bool) → shape.key_part ≡ t → h.naming < 2 ^ 16
    small_name true e = let name : h.naming ≡ spi = naming ∙ rw e in omega arith
    small_name false e = let name : h.naming ≡ 0 = naming ∙ rw e in omega arith

    unnamed : h.service ≢ 2 → names_spi shape h.service ≡ false
    unnamed other = rw (ne_eqb h.service 2 other) (and-false shape.key_part)

    opens_so : names_spi shape h.service ≡ false → Opens shape h.service said spi frame
    opens_so no_name =
        record { spis = λ e. absurd (true≢false (sym e ∙ no_name)); zeros = λ e. absurd (true≢false (sym e ∙ no_name)) }

    -- a number that a window can take is the one on the frame, behind what the IV begins with
    pub number-kept : 0 < n → n ≤ greatest → Opens shape h.service said spi frame × (number_on shape h.service said frame ≡ n)
    number-kept some most = by-service (ℕ_discrete h.service 2) shape.key_part refl
      where
        goal : Type 0
        goal = Opens shape h.service said spi frame × (number_on shape h.service said frame ≡ n)

        by_name : (two : h.service ≡ 2) → (t : Bool) → shape.key_part ≡ t → Dec (number_at (at + 2) 4 frame ≡ h.naming) → goal
        by_name two t e (no other) =
            let here : h.naming < 2 ^ 16 = small_name t e in
            let z : n ≡ 0 = encrypted two here ∙ rw (ne_eqb (number_at (at + 2) 4 frame) h.naming other) in
            absurd (omega arith)
        by_name two true e (yes same) =
            let name : h.naming ≡ spi = naming ∙ rw e in
            let v : n ≡ number_at (at + 6) 4 frame * 4294967296 + number_at (at + 10) 4 frame =
            encrypted two (omega arith) ∙ rw (eq-eqb (number_at (at + 2) 4 frame) h.naming same)
            in
            let named : names_spi shape h.service ≡ true = rw (e, eq-eqb h.service 2 two) in
            (record { spis = λ t. same ∙ name; zeros = λ t. omega arith }, rw named (omega arith))
        by_name two false e (yes same) =
            let name : h.naming ≡ 0 = naming ∙ rw e in
            let v : n ≡ number_at (at + 6) 4 frame * 4294967296 + number_at (at + 10) 4 frame =
            encrypted two (omega arith) ∙ rw (eq-eqb (number_at (at + 2) 4 frame) h.naming same)
            in
            let no_name : names_spi shape h.service ≡ false = rw e in
            (opens_so no_name, rw (no_name, eq-eqb h.service 2 two) (omega (arith, in_three)))

        by-service : Dec (h.service ≡ 2) → (t : Bool) → shape.key_part ≡ t → goal
        by-service (no other) t e = (opens_so (unnamed other), rw (unnamed other, ne_eqb h.service 2 other) (sym (signed other)))
        by-service (yes two) t e = by_name two t e (ℕ_discrete (number_at (at + 2) 4 frame) h.naming)

    pub number-right : Opens shape h.service said spi frame → number_on shape h.service said frame ≤ greatest
        → n ≡ number_on shape h.service said frame
    number-right opens most = by-service (ℕ_discrete h.service 2) shape.key_part refl
      where
        by-service : Dec (h.service ≡ 2) → (t : Bool) → shape.key_part ≡ t → n ≡ number_on shape h.service said frame
        by-service (no other) t e = rw (unnamed other, ne_eqb h.service 2 other) (signed other)
        by-service (yes two) true e =
            let name : h.naming ≡ spi = naming ∙ rw e in
            let named : names_spi shape h.service ≡ true = rw (e, eq-eqb h.service 2 two) in
            let zero : number_at (at + 6) 4 frame ≡ 0 = opens.zeros named in
            rw named
            (encrypted two (omega arith)
            ∙ rw (eq-eqb (number_at (at + 2) 4 frame) h.naming (opens.spis named ∙ sym name)) (omega arith))
        by-service (yes two) false e =
            let name : h.naming ≡ 0 = naming ∙ rw e in
            let no_name : names_spi shape h.service ≡ false = rw e in
            let few : number_at (at + 2) 12 frame ≤ greatest = rw (no_name, eq-eqb h.service 2 two) at most in
            let nothing : number_at (at + 2) 4 frame ≡ 0 = omega (arith, in_three) in
            rw (no_name, eq-eqb h.service 2 two)
            (encrypted two (omega arith)
            ∙ rw (eq-eqb (number_at (at + 2) 4 frame) h.naming (nothing ∙ sym name)) (omega (arith, in_three)))

-- the data, both ways
pub going_out_lem : (number : ℕ) (key field clear : List ℕ) → (service number).going_out key field clear ≡ going_out number key field clear
unfolding service
going_out_lem number key field clear = by_test (eqb number 2)
  where
    by_test : (t : Bool)
        → (cond t authenticated_encryption authentication).going_out key field clear ≡ cond t (ciphertext key field clear) clear
    by_test true = refl
    by_test false = refl

pub coming_in_lem : (number : ℕ) (key field text : List ℕ) → (service number).coming_in key field text ≡ coming_in number key field text
unfolding service
coming_in_lem number key field text = by_test (eqb number 2)
  where
    by_test : (t : Bool)
        → (cond t authenticated_encryption authentication).coming_in key field text ≡ cond t (plaintext key field text) text
    by_test true = refl
    by_test false = refl
