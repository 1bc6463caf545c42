-- What rewriting the length keeps, with a check field or without, shown once for each kind and stated once over all of them: every octet but the length field's, and of a
-- frame that begins with the rewritten header the rules, the lengths of header and trailer and the identifiers.
-- Assumes nothing.
use Prim.Native.Nat.{ℕ, ◌+◌, ◌-◌, ◌*◌, ◌/◌, ◌%◌, ◌≤◌, ◌<◌}
use mathlib.Core.Path.{◌≡◌, refl, ap, ap₂, ◌∙◌}
use mathlib.Core.Logic.{◌≢◌}
use mathlib.Core.List.{List, ◌++◌}
use mathlib.Core.Bool.{Bool, true, false, ◌&&◌, ◌||◌, not, cond}
use native.Mathlib.Omega.{arith}
use borrow.Author.Tests.{eq-eqb, lt-ltb}
use lib.Dec.{eqb, ltb}
use lib.ListN.{length, take, set, length-set, get_or-append}
use lib.Seq.{get_or-set_same, get_or-set_other, get_or-take, length-take-le}
use Rattle.std.specs.Prelude.{Option, Some, None}
use Rattle.octets.specs.Lists.{octet}
use Rattle.headers.specs.Fields.{tc_spacecraft, tc_channel, segment_map, tm_secondary, secondary_length}
use Rattle.headers.specs.Telecommand.{tc_rules, tc_length_ok, tc_with_length}
use Rattle.headers.specs.Telemetry.{tm_primary, secondary_rules, tm_header}
use Rattle.kinds.specs.Kinds.{Kind, telecommand, tc, segmented_tc, tm, aos, no_kind, kind_is, kind_behind, kind_of, named}
use Rattle.kinds.specs.Kinds.{check_field_length, with_check_field, framed}
use Rattle.kinds.specs.declared.framing.Framing.{Framing}
use Rattle.kinds.specs.declared.kinds.Kind.TheVariants as kind
use Rattle.kinds.specs.declared.kinds.Kind as code

-- a frame s that begins with the header of another, its length rewritten
pub record Kept (k : Kind) (frame s : List ℕ) : Type 0 where
  pub rules : k.rules s ≡ true
  pub length_ok : k.length_ok s ≡ true
  pub header : k.header s ≡ k.header frame
  pub trailer : k.trailer s ≡ k.trailer frame
  pub spacecraft : k.spacecraft s ≡ k.spacecraft frame
  pub channel : k.channel s ≡ k.channel frame
  pub map : k.map s ≡ k.map frame

-- the header of a frame, its length rewritten for n octets, and a rest behind it
abbrev pub built : Kind → ℕ → List ℕ → List ℕ → List ℕ
built k n frame rest = k.with_length n (take (k.header frame) frame) ++ rest

pub record Lawful (k : Kind) : Type 0 where
  pub long : (n : ℕ) (s : List ℕ) → length (k.with_length n s) ≡ length s
  pub other : (n : ℕ) (s : List ℕ) (j : ℕ) → j ≢ 2 → j ≢ 3 → octet (k.with_length n s) j ≡ octet s j
  -- f has room for the check field
  pub counted : (frame : List ℕ) → check_field_length k.ends_in_field ≤ k.trailer frame
  pub same_header : (n : ℕ) (frame rest : List ℕ) → k.header frame ≤ length frame → k.header (built k n frame rest) ≡ k.header frame
  pub keeps : (n : ℕ) (frame rest : List ℕ) → k.rules frame ≡ true → k.header frame ≤ length frame
      → length (built k n frame rest) ≡ n → 0 < n → n ≤ k.largest → Kept k frame (built k n frame rest)

-- ---- TC, over the header's length

either : (P : List ℕ → Type 0) (t : Bool) {a b : List ℕ} → P a → P b → P (cond t a b)
either P true x y = x
either P false x y = y

tc-long : (n : ℕ) (s : List ℕ) → length (tc_with_length n s) ≡ length s
unfolding tc_with_length
tc-long n s = either (λ l. length l ≡ length s) (ltb 3 (length s)) (simp length-set) refl

pub tc-other : (n : ℕ) (s : List ℕ) (j : ℕ) → j ≢ 2 → j ≢ 3 → octet (tc_with_length n s) j ≡ octet s j
unfolding tc_with_length
tc-other n s j p q =
    let two = tc_channel s * 4 + (n - 1) / 256 % 4 in
    either (λ l. octet l j ≡ octet s j) (ltb 3 (length s))
    (get_or-set_other (set s 2 two) 3 j ((n - 1) % 256) 0 q ∙ get_or-set_other s 2 j two 0 p)
    refl

module _ (n : ℕ) (s : List ℕ) (holds : 3 < length s) where
  pub tc-two : octet (tc_with_length n s) 2 ≡ tc_channel s * 4 + (n - 1) / 256 % 4
  unfolding tc_with_length
  tc-two =
      let two = tc_channel s * 4 + (n - 1) / 256 % 4 in
      rw (lt-ltb 3 (length s) holds)
      (get_or-set_other (set s 2 two) 3 2 ((n - 1) % 256) 0 (omega arith) ∙ get_or-set_same s 2 two 0 (omega arith))

  pub tc-three : octet (tc_with_length n s) 3 ≡ (n - 1) % 256
  unfolding tc_with_length
  tc-three =
      let two = tc_channel s * 4 + (n - 1) / 256 % 4 in
      let l = length-set s 2 two in
      rw (lt-ltb 3 (length s) holds) (get_or-set_same (set s 2 two) 3 ((n - 1) % 256) 0 (omega arith))

module _ (h : ℕ) (n : ℕ) (frame rest : List ℕ) (five : 5 ≤ h) (fits : h ≤ length frame) where
  abbrev head : List ℕ
  head = take h frame

  abbrev whole : List ℕ
  whole = tc_with_length n head ++ rest

  long_head : length head ≡ h
  long_head = length-take-le h frame fits

  front : (j : ℕ) → j < h → octet whole j ≡ octet (tc_with_length n head) j
  front j l = let a = tc-long n head in let b = long_head in get_or-append (tc_with_length n head) rest 0 j (omega arith)

  same-octet : (j : ℕ) → j < h → j ≢ 2 → j ≢ 3 → octet whole j ≡ octet frame j
  same-octet j l p q = front j l ∙ tc-other n head j p q ∙ get_or-take h frame j 0 l

  third : octet whole 2 ≡ tc_channel frame * 4 + (n - 1) / 256 % 4
  third =
      let b = long_head in
      front 2 (omega arith) ∙ tc-two n head (omega arith)
      ∙ ap (λ (x : ℕ). x / 4 * 4 + (n - 1) / 256 % 4) (get_or-take h frame 2 0 (omega arith))

  fourth : octet whole 3 ≡ (n - 1) % 256
  fourth = let b = long_head in front 3 (omega arith) ∙ tc-three n head (omega arith)

  module _ (ok : tc_rules frame ≡ true) (count : length whole ≡ n) (some : 0 < n) (small : n ≤ 1024) where
    whole-rules : tc_rules whole ≡ true
    whole-rules =
        ap (λ (x : ℕ). eqb (x / 64) 0 && eqb (x / 16 % 2) 0 && eqb (x / 4 % 4) 0) (same-octet 0 (omega arith) (omega arith) (omega arith)) ∙ ok

    whole_length : tc_length_ok whole ≡ true
    whole_length =
        let a = third in
        let b = fourth in
        eq-eqb (octet whole 2 % 4 * 256 + octet whole 3 + 1) (length whole) (omega arith)

    whole-spacecraft : tc_spacecraft whole ≡ tc_spacecraft frame
    whole-spacecraft =
        ap₂ (λ (x y : ℕ). x % 4 * 256 + y) (same-octet 0 (omega arith) (omega arith) (omega arith))
        (same-octet 1 (omega arith) (omega arith) (omega arith))

    whole-channel : tc_channel whole ≡ tc_channel frame
    whole-channel = let a = third in omega arith

-- a TC kind is lawful if rewriting the length keeps what it reads as MAP
telecommand_lawful : (h most : ℕ) (map : List ℕ → ℕ) → 5 ≤ h
    → ((n : ℕ) (frame rest : List ℕ) → h ≤ length frame → map (built (telecommand h map most) n frame rest) ≡ map frame)
    → Lawful (telecommand h map most)
telecommand_lawful h most map five same =
    record {
      long = tc-long;
      other = tc-other;
      counted = λ frame. omega arith;
      same_header = λ n frame rest fits. refl;
      keeps = λ n frame rest ok fits count some small.
          record {
            rules = whole-rules h n frame rest five fits ok count some small;
            length_ok = whole_length h n frame rest five fits ok count some small;
            header = refl;
            trailer = refl;
            spacecraft = whole-spacecraft h n frame rest five fits ok count some small;
            channel = whole-channel h n frame rest five fits ok count some small;
            map = same n frame rest fits;
          };
    }

tc_lawful : Lawful tc
tc_lawful = telecommand_lawful 5 0 (λ frame. 0) (omega arith) (λ n frame rest fits. refl)

segmented_lawful : Lawful segmented_tc
segmented_lawful =
    telecommand_lawful 6 63 segment_map (omega arith)
    (λ n frame rest fits. ap (λ (x : ℕ). x % 64) (same-octet 6 n frame rest (omega arith) fits 5 (omega arith) (omega arith) (omega arith)))

-- ---- TM and AOS, whose header is copied

module _ (h : ℕ) (frame rest : List ℕ) (fits : h ≤ length frame) where
  copied_octet_lem : (j : ℕ) → j < h → octet (take h frame ++ rest) j ≡ octet frame j
  copied_octet_lem j l =
      let c = length-take-le h frame fits in
      get_or-append (take h frame) rest 0 j (omega arith) ∙ get_or-take h frame j 0 l

-- what is read of the flag and of the octet behind the primary header, and not of that octet where the flag is 0, is read alike
module _ (frame rest : List ℕ) (fits : tm_header frame ≤ length frame) where
  abbrev copy : List ℕ
  copy = take (tm_header frame) frame ++ rest

  sixth : eqb (tm_secondary frame) 0 ≡ false → octet copy 6 ≡ octet frame 6
  sixth e =
      let long : tm_header frame ≡ tm_primary + (secondary_length frame + 1) = rw e in
      copied_octet_lem (tm_header frame) frame rest fits 6 (omega arith)

  by_flag : {A : Type 0} (read : Bool → ℕ → A) → ((x y : ℕ) → read true x ≡ read true y)
      → read (eqb (tm_secondary copy) 0) (octet copy 6) ≡ read (eqb (tm_secondary frame) 0) (octet frame 6)
  by_flag read unread =
      ap (λ (x : ℕ). read (eqb (x / 128) 0) (octet copy 6)) (copied_octet_lem (tm_header frame) frame rest fits 4 (omega arith))
      ∙ by_test (eqb (tm_secondary frame) 0) refl
    where
      by_test : (none : Bool) → eqb (tm_secondary frame) 0 ≡ none → read none (octet copy 6) ≡ read none (octet frame 6)
      by_test true e = unread (octet copy 6) (octet frame 6)
      by_test false e = ap (read false) (sixth e)

  tm-header : tm_header copy ≡ tm_header frame
  tm-header = by_flag (λ none x. tm_primary + cond none 0 (x % 64 + 1)) (λ x y. refl)

  secondary-kept : (eqb (tm_secondary copy) 0 || secondary_rules copy) ≡ (eqb (tm_secondary frame) 0 || secondary_rules frame)
  secondary-kept = by_flag (λ none x. none || (eqb (x / 64) 0 && ltb 0 (x % 64))) (λ x y. refl)

tm_lawful : Lawful tm
tm_lawful =
    record {
      long = λ n s. refl;
      other = λ n s j p q. refl;
      counted = λ frame. omega arith;
      same_header = λ n frame rest fits. tm-header frame rest fits;
      keeps = go;
    }
  where
    go : (n : ℕ) (frame rest : List ℕ) → tm.rules frame ≡ true → tm_header frame ≤ length frame
        → length (built tm n frame rest) ≡ n → 0 < n → n ≤ 2048 → Kept tm frame (built tm n frame rest)
    go n frame rest ok fits count some small =
        let e0 = copied_octet_lem (tm_header frame) frame rest fits 0 (omega arith) in
        let e1 = copied_octet_lem (tm_header frame) frame rest fits 1 (omega arith) in
        record {
          rules = ap₂ (λ (x : ℕ) (b : Bool). eqb (x / 64) 0 && b) e0 (secondary-kept frame rest fits) ∙ ok;
          length_ok = refl;
          header = tm-header frame rest fits;
          trailer = ap (λ (x : ℕ). 4 * (x % 2)) e1;
          spacecraft = ap₂ (λ (x y : ℕ). x % 64 * 16 + y / 16) e0 e1;
          channel = ap (λ (x : ℕ). x / 2 % 8) e1;
          map = refl;
        }

aos_lawful : Lawful aos
aos_lawful =
    record {
      long = λ n s. refl;
      other = λ n s j p q. refl;
      counted = λ frame. omega arith;
      same_header = λ n frame rest fits. refl;
      keeps = go;
    }
  where
    go : (n : ℕ) (frame rest : List ℕ) → aos.rules frame ≡ true → 6 ≤ length frame
        → length (built aos n frame rest) ≡ n → 0 < n → n ≤ 2048 → Kept aos frame (built aos n frame rest)
    go n frame rest ok fits count some small =
        let e0 = copied_octet_lem 6 frame rest fits 0 (omega arith) in
        let e1 = copied_octet_lem 6 frame rest fits 1 (omega arith) in
        record {
          rules = ap (λ (x : ℕ). eqb (x / 64) 1) e0 ∙ ok;
          length_ok = refl;
          header = refl;
          trailer = refl;
          spacecraft = ap₂ (λ (x y : ℕ). x % 64 * 4 + y / 64) e0 e1;
          channel = ap (λ (x : ℕ). x % 64) e1;
          map = refl;
        }

-- ---- every kind that a number names, and none

none_lawful : Lawful no_kind
none_lawful =
    record {
      long = λ n s. refl;
      other = λ n s j p q. refl;
      counted = λ frame. omega arith;
      same_header = λ n frame rest fits. refl;
      keeps = λ n frame rest ok fits count some small. let z : ◌≡◌ {A = ℕ} 0 1 = cc in absurd (omega arith);
    }

lawful_named : (a : Option code.Kind) → Lawful (kind_behind a)
lawful_named (Some kind.Tc) = tc_lawful
lawful_named (Some kind.SegmentedTc) = segmented_lawful
lawful_named (Some kind.Tm) = tm_lawful
lawful_named (Some kind.Aos) = aos_lawful
lawful_named None = none_lawful

-- ---- with a check field: the header is the kind's, and nothing in it says how long the trailer then is

both_true : (a b : Bool) → (a && b) ≡ true → (a ≡ true) × (b ≡ true)
both_true true b e = (refl, e)
both_true false b e = let z : ◌≡◌ {A = ℕ} 0 1 = cc in absurd (omega arith)

module _ (present : Bool) (k : Kind) (law : Lawful k) where
  keeps_with : (n : ℕ) (frame rest : List ℕ) → (with_check_field present k).rules frame ≡ true → k.header frame ≤ length frame
      → length (built k n frame rest) ≡ n → 0 < n → n ≤ k.largest → Kept (with_check_field present k) frame (built k n frame rest)
  keeps_with n frame rest ok fits count some small =
      let kept : (k.rules frame ≡ true) × (not present || k.may_end_in_field ≡ true) = both_true (k.rules frame) (not present || k.may_end_in_field) ok in
      let same : Kept k frame (built k n frame rest) = law.keeps n frame rest kept.0 fits count some small in
      record {
        rules = rw same.rules kept.1;
        length_ok = same.length_ok;
        header = same.header;
        trailer = ap (λ (f : ℕ). f + check_field_length present) same.trailer;
        spacecraft = same.spacecraft;
        channel = same.channel;
        map = same.map;
      }

  lawful_with : Lawful (with_check_field present k)
  lawful_with =
      record { long = law.long; other = law.other; counted = λ frame. omega arith; same_header = law.same_header; keeps = keeps_with }

pub lawful_framed : (framing : Framing) → Lawful (framed framing)
lawful_framed framing = lawful_with framing.field (kind_is framing.kind) (lawful_named (Some framing.kind))

pub lawful : (present : Bool) (number : ℕ) → Lawful (with_check_field present (kind_of number))
lawful present number = lawful_with present (kind_of number) (lawful_named (named number))
