-- The definitions' record of a kind says what the promises' form of it says: for each kind once, and for any number that names one or none.
-- Assumes nothing.
use Prim.Native.Nat.{ℕ, ◌+◌, ◌-◌, ◌*◌, ◌/◌, ◌%◌, ◌≤◌, ◌<◌}
use mathlib.Core.Path.{◌≡◌, refl, ap₂, ◌∙◌}
use mathlib.Core.Logic.{◌⊎◌, inl, inr}
use mathlib.Core.Bool.{Bool, true, false, cond, ◌&&◌, ◌||◌, or-true}
use mathlib.Core.List.{List}
use native.Mathlib.Decide.{ℕ_discrete, dec_lt}
use native.Mathlib.Omega.{arith}
use borrow.Author.Tests.{eqb-true, eq-eqb, ne_eqb, ltb-true, lt-ltb, le-ltb}
use lib.Bits.{bit_and}
use lib.Dec.{eqb, ltb}
use lib.ListN.{length, take}
use lib.Seq.{get_or-take, length-take-le, ext_get_or}
use Rattle.std.specs.Prelude.{Some, None}
use Rattle.octets.specs.Lists.{octet}
use Rattle.octets.proofs.Alls.{and_left, and_right}
use Rattle.octets.proofs.Rules.{length-tab, octet-tab}
use Rattle.headers.specs.Fields.{tm_secondary}
use Rattle.headers.specs.Telecommand.{tc_rules, tc_length_ok, tc_with_length}
use Rattle.headers.specs.Telemetry.{secondary_rules, tm_header}
use Rattle.kinds.specs.Kinds.{Kind, telecommand, tm, aos, no_kind, kind_behind, kind_of, named}
use Rattle.masking.specs.Masked.{masked}
use Rattle.kinds.specs.declared.kinds.Kind.TheVariants as kind
use Rattle.kinds.proofs.Kept.{tc-other, tc-two, tc-three}
use Rattle.masking.proofs.Masking.{octet_reached, octet_beyond, length-masked}
use Rattle.promises.specs.Forms.{Form, TcHeader, tc_secured_octet, tc_form, SecondaryHeader}
use Rattle.promises.specs.Forms.{plain_tc_form, segmented_tc_form, tm_form, aos_form, no_form, form_of, under_mask}

pub record Describes (f : Form) (k : Kind) : Type 0 where
  -- the rules on the header, both ways
  pub tested : (frame : List ℕ) → f.Header frame → (k.rules frame ≡ true) × (k.length_ok frame ≡ true)
  pub kept : (frame : List ℕ) → k.rules frame ≡ true → k.length_ok frame ≡ true → f.Header frame
  pub header : (frame : List ℕ) → f.header frame ≡ k.header frame
  pub trailer : (frame : List ℕ) → f.trailer frame ≡ k.trailer frame
  pub largest : f.largest ≡ k.largest
  pub ending : f.may_end_in_field ≡ k.may_end_in_field
  -- the header that goes out
  pub copied : (n : ℕ) (clear : List ℕ) (j : ℕ) → n ≤ k.largest → k.header clear ≤ length clear → j < k.header clear
      → octet (k.with_length n (take (k.header clear) clear)) j ≡ f.secured_octet n clear j
  pub spacecraft : (frame : List ℕ) → f.spacecraft frame ≡ k.spacecraft frame
  pub channel : (frame : List ℕ) → f.channel frame ≡ k.channel frame
  pub map : (frame : List ℕ) → f.map frame ≡ k.map frame
  pub most_spacecraft : f.most_spacecraft ≡ k.most_spacecraft
  pub most_channel : f.most_channel ≡ k.most_channel
  pub most_map : f.most_map ≡ k.most_map

-- ---- TC, over the header's length

tc_tested : (frame : List ℕ) → TcHeader frame → (tc_rules frame ≡ true) × (tc_length_ok frame ≡ true)
tc_tested frame t = (
  ap₂ ◌&&◌ (ap₂ ◌&&◌ (eq-eqb _ 0 t.version) (eq-eqb _ 0 t.control)) (eq-eqb _ 0 t.spare),
  eq-eqb _ (length frame) t.length_field,
)

tc-kept : (frame : List ℕ) → tc_rules frame ≡ true → tc_length_ok frame ≡ true → TcHeader frame
tc-kept frame rules counted =
    record {
      version = eqb-true (octet frame 0 / 64) 0 (search (and_left, and_right));
      control = eqb-true (octet frame 0 / 16 % 2) 0 (search (and_left, and_right));
      spare = eqb-true (octet frame 0 / 4 % 4) 0 (search and_right);
      length_field = eqb-true (octet frame 2 % 4 * 256 + octet frame 3 + 1) (length frame) counted;
    }

module _ (h n : ℕ) (clear : List ℕ) (five : 5 ≤ h) (small : n ≤ 1024) (fits : h ≤ length clear) where
  abbrev head : List ℕ
  head = take h clear

  tc_copied : (j : ℕ) → j < h → octet (tc_with_length n head) j ≡ tc_secured_octet n clear j
  tc_copied j below = by_place (ℕ_discrete j 2) (ℕ_discrete j 3)
    where
      holds : 3 < length head
      holds = omega (arith, length-take-le h clear fits)

      by_place : Dec (j ≡ 2) → Dec (j ≡ 3) → octet (tc_with_length n head) j ≡ tc_secured_octet n clear j
      by_place (yes p) q =
          let high : (n - 1) / 256 % 4 ≡ (n - 1) / 256 = omega arith in
          rw p (tc-two n head holds ∙ ap₂ (λ (x y : ℕ). x / 4 * 4 + y) (get_or-take h clear 2 0 (omega arith)) high)
      by_place (no p) (yes q) = rw q (tc-three n head holds)
      by_place (no p) (no q) = rw (ne_eqb j 2 p, ne_eqb j 3 q) (tc-other n head j p q ∙ get_or-take h clear j 0 below)

tc_describes : (h most : ℕ) (map : List ℕ → ℕ) → 5 ≤ h → Describes (tc_form h map most) (telecommand h map most)
tc_describes h most map five =
    record {
      tested = tc_tested;
      kept = tc-kept;
      header = λ frame. refl;
      trailer = λ frame. refl;
      largest = refl;
      ending = refl;
      copied = λ n clear j small fits below. tc_copied h n clear five small fits j below;
      spacecraft = λ frame. refl;
      channel = λ frame. refl;
      map = λ frame. refl;
      most_spacecraft = refl;
      most_channel = refl;
      most_map = refl;
    }

-- ---- TM, with a secondary header or without

secondary_tested : (frame : List ℕ) → (octet frame 4 / 128 ≡ 0) ⊎ SecondaryHeader frame
    → (eqb (tm_secondary frame) 0 || secondary_rules frame) ≡ true
secondary_tested frame (inl none) = rw (eq-eqb (octet frame 4 / 128) 0 none)
secondary_tested frame (inr s) =
    rw (eq-eqb (octet frame 6 / 64) 0 s.version, lt-ltb 0 (octet frame 6 % 64) s.length_field) (or-true (eqb (octet frame 4 / 128) 0))

secondary-kept : (frame : List ℕ) (none : Bool) → eqb (tm_secondary frame) 0 ≡ none → (none || secondary_rules frame) ≡ true
    → (octet frame 4 / 128 ≡ 0) ⊎ SecondaryHeader frame
secondary-kept frame true e rules = inl (eqb-true (octet frame 4 / 128) 0 e)
secondary-kept frame false e rules =
    inr
    (record {
      version = eqb-true (octet frame 6 / 64) 0 (search and_left);
      length_field = ltb-true 0 (octet frame 6 % 64) (search and_right);
    })

tm_describes : Describes tm_form tm
tm_describes =
    record {
      tested = λ frame t. (ap₂ ◌&&◌ (eq-eqb _ 0 t.version) (secondary_tested frame t.secondary), refl);
      kept = λ frame rules counted.
          record {
            version = eqb-true (octet frame 0 / 64) 0 (search and_left);
            secondary = secondary-kept frame (eqb (tm_secondary frame) 0) refl (search and_right);
          };
      header = λ frame. refl;
      trailer = λ frame. refl;
      largest = refl;
      ending = refl;
      copied = λ n clear j small fits below. get_or-take (tm_header clear) clear j 0 below;
      spacecraft = λ frame. refl;
      channel = λ frame. refl;
      map = λ frame. refl;
      most_spacecraft = refl;
      most_channel = refl;
      most_map = refl;
    }

-- ---- AOS, and no kind

aos_describes : Describes aos_form aos
aos_describes =
    record {
      tested = λ frame t. (eq-eqb _ 1 t.version, refl);
      kept = λ frame rules counted. record { version = eqb-true (octet frame 0 / 64) 1 rules };
      header = λ frame. refl;
      trailer = λ frame. refl;
      largest = refl;
      ending = refl;
      copied = λ n clear j small fits below. get_or-take 6 clear j 0 below;
      spacecraft = λ frame. refl;
      channel = λ frame. refl;
      map = λ frame. refl;
      most_spacecraft = refl;
      most_channel = refl;
      most_map = refl;
    }

none_describes : Describes no_form no_kind
none_describes =
    record {
      tested = λ frame t. absurd t;
      kept = λ frame rules counted. let z : ◌≡◌ {A = ℕ} 0 1 = cc in omega arith;
      header = λ frame. refl;
      trailer = λ frame. refl;
      largest = refl;
      ending = refl;
      copied = λ n clear j small fits below. absurd (omega arith);
      spacecraft = λ frame. refl;
      channel = λ frame. refl;
      map = λ frame. refl;
      most_spacecraft = refl;
      most_channel = refl;
      most_map = refl;
    }

-- ---- whatever the number names

pub described : (number : ℕ) → Describes (form_of number) (kind_of number)
unfolding form_of named
described number = by_test (eqb number 1) (eqb number 2) (eqb number 3) (eqb number 4)
  where
    by_test : (a b c d : Bool)
        → Describes (cond a plain_tc_form (cond b segmented_tc_form (cond c tm_form (cond d aos_form no_form))))
        (kind_behind (cond a (Some kind.Tc) (cond b (Some kind.SegmentedTc)
        (cond c (Some kind.Tm) (cond d (Some kind.Aos) None)))))
    by_test true b c d = tc_describes 5 0 (λ frame. 0) (omega arith)
    by_test false true c d = tc_describes 6 63 (λ frame. octet frame 5 % 64) (omega arith)
    by_test false false true d = tm_describes
    by_test false false false true = aos_describes
    by_test false false false false = none_describes

-- ---- a mask of six octets

module _ (mask header : List ℕ) (six : length mask ≡ 6) where
  masked-at : (i : ℕ) → octet (masked mask header) i ≡ cond (ltb i 6) (bit_and (octet header i) (octet mask i)) (octet header i)
  masked-at i = by_place (dec_lt i 6)
    where
      by_place : Dec (i < 6) → octet (masked mask header) i ≡ cond (ltb i 6) (bit_and (octet header i) (octet mask i)) (octet header i)
      by_place (yes l) = rw (lt-ltb i 6 l) (octet_reached mask header i (omega arith))
      by_place (no g) = rw (le-ltb i 6 (omega arith)) (octet_beyond mask header i (omega arith))

  pub under_mask_lem : masked mask header ≡ under_mask mask header
  under_mask_lem =
      let long = length-masked mask header in
      ext_get_or 0 (masked mask header) (under_mask mask header) (simp (length-masked, length-tab))
      (λ i below.
      let inside : i < length header = omega arith in
      rw octet-tab (masked-at i))
