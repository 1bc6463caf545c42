-- Of two frames of one length that agree in their headers, all is the same that a check reads before the security header: the kind's rules,
-- the lengths of header and trailer, and the identifiers. So the frames obey alike, and the data that they hold is equally long.
-- Assumes nothing.
use Prim.Native.Nat.{ℕ, ◌+◌, ◌-◌, ◌*◌, ◌/◌, ◌%◌, ◌≤◌, ◌<◌}
use mathlib.Core.Path.{◌≡◌, refl, ap, ap₂, ◌∙◌}
use mathlib.Core.Bool.{Bool, true, false, cond, not, ◌&&◌, ◌||◌}
use mathlib.Core.List.{List}
use native.Mathlib.Omega.{arith}
use lib.Dec.{eqb, ltb}
use lib.ListN.{length}
use lib.Seq.{length-slice}
use Rattle.std.specs.Prelude.{Option, Some, None}
use Rattle.octets.specs.Lists.{octet}
use Rattle.headers.specs.Fields.{segment_map, tm_secondary, secondary_length}
use Rattle.headers.specs.Telemetry.{tm_primary, tm_header}
use Rattle.kinds.specs.Kinds.{Kind, telecommand, tm, aos, no_kind, kind_behind, kind_of, named, check_field_length}
use Rattle.kinds.specs.declared.kinds.Kind.TheVariants as kind
use Rattle.kinds.specs.declared.kinds.Kind as code
use Rattle.frame.specs.Parts.{security_end, mac_start, too_short, secured_content}
use Rattle.frame.specs.Rules.{obeys}
use Rattle.association.specs.declared.held.Held.{Held}
use Rattle.services.specs.SecurityHeader.{security_length}
use Rattle.protection.specs.Protection.{field_in, text_in, number_in, clear_length}
use Rattle.judging.specs.Said.{Said, kind_said}

pub record SameHeaders (k : Kind) (frame other : List ℕ) : Type 0 where
  pub long : length other ≡ length frame
  pub rules : k.rules other ≡ k.rules frame
  pub header : k.header other ≡ k.header frame
  pub trailer : k.trailer other ≡ k.trailer frame
  pub length_ok : k.length_ok other ≡ k.length_ok frame
  pub spacecraft : k.spacecraft other ≡ k.spacecraft frame
  pub channel : k.channel other ≡ k.channel frame
  pub map : k.map other ≡ k.map frame

-- ---- each kind reads its header alone

module _ (frame other : List ℕ) (long : length other ≡ length frame) where
  telecommand_reads : (h most : ℕ) (map : List ℕ → ℕ) → 5 ≤ h → map other ≡ map frame
      → ((j : ℕ) → j < h → octet other j ≡ octet frame j) → SameHeaders (telecommand h map most) frame other
  telecommand_reads h most map five maps same =
      let e0 = same 0 (omega arith) in
      let e1 = same 1 (omega arith) in
      let e2 = same 2 (omega arith) in
      let e3 = same 3 (omega arith) in
      record {
        long = long;
        rules = ap (λ (x : ℕ). eqb (x / 64) 0 && eqb (x / 16 % 2) 0 && eqb (x / 4 % 4) 0) e0;
        header = refl;
        trailer = refl;
        length_ok = cc;
        spacecraft = ap₂ (λ (x y : ℕ). x % 4 * 256 + y) e0 e1;
        channel = ap (λ (x : ℕ). x / 4) e2;
        map = maps;
      }

  -- what is read of the flag and of the octet behind the primary header, and not of that octet where the flag is 0, is read alike
  module _ (same : (j : ℕ) → j < tm_header frame → octet other j ≡ octet frame j) where
    by_flag : {A : Type 0} (read : Bool → ℕ → A) → ((x y : ℕ) → read true x ≡ read true y)
        → read (eqb (tm_secondary other) 0) (octet other 6) ≡ read (eqb (tm_secondary frame) 0) (octet frame 6)
    by_flag read unread =
        ap (λ (x : ℕ). read (eqb (x / 128) 0) (octet other 6)) (same 4 (omega arith)) ∙ by_test (eqb (tm_secondary frame) 0) refl
      where
        by_test : (none : Bool) → eqb (tm_secondary frame) 0 ≡ none → read none (octet other 6) ≡ read none (octet frame 6)
        by_test true e = unread (octet other 6) (octet frame 6)
        by_test false e =
            let h : tm_header frame ≡ tm_primary + (secondary_length frame + 1) = rw e in
            ap (read false) (same 6 (omega arith))

    tm_reads : SameHeaders tm frame other
    tm_reads =
        let e0 = same 0 (omega arith) in
        let e1 = same 1 (omega arith) in
        record {
          long = long;
          rules =
              ap₂ (λ (x : ℕ) (b : Bool). eqb (x / 64) 0 && b) e0
              (by_flag (λ none x. none || (eqb (x / 64) 0 && ltb 0 (x % 64))) (λ x y. refl));
          header = by_flag (λ none x. tm_primary + cond none 0 (x % 64 + 1)) (λ x y. refl);
          trailer = ap (λ (x : ℕ). 4 * (x % 2)) e1;
          length_ok = refl;
          spacecraft = ap₂ (λ (x y : ℕ). x % 64 * 16 + y / 16) e0 e1;
          channel = ap (λ (x : ℕ). x / 2 % 8) e1;
          map = refl;
        }

  aos_reads : ((j : ℕ) → j < 6 → octet other j ≡ octet frame j) → SameHeaders aos frame other
  aos_reads same =
      let e0 = same 0 (omega arith) in
      let e1 = same 1 (omega arith) in
      record {
        long = long;
        rules = ap (λ (x : ℕ). eqb (x / 64) 1) e0;
        header = refl;
        trailer = refl;
        length_ok = refl;
        spacecraft = ap₂ (λ (x y : ℕ). x % 64 * 4 + y / 64) e0 e1;
        channel = ap (λ (x : ℕ). x % 64) e1;
        map = refl;
      }

  none_reads : SameHeaders no_kind frame other
  none_reads =
      record {
        long = long;
        rules = refl;
        header = refl;
        trailer = refl;
        length_ok = refl;
        spacecraft = refl;
        channel = refl;
        map = refl;
      }

  reads : (a : Option code.Kind) → ((j : ℕ) → j < (kind_behind a).header frame → octet other j ≡ octet frame j) → SameHeaders (kind_behind a) frame other
  reads (Some kind.Tc) same = telecommand_reads 5 0 (λ s. 0) (omega arith) refl same
  reads (Some kind.SegmentedTc) same =
      telecommand_reads 6 63 segment_map (omega arith) (ap (λ (x : ℕ). x % 64) (same 5 (omega arith))) same
  reads (Some kind.Tm) same = tm_reads same
  reads (Some kind.Aos) same = aos_reads same
  reads None same = none_reads

  -- with a check field or without
  pub same_headers : (said : Said) → ((j : ℕ) → j < (kind_said said).header frame → octet other j ≡ octet frame j)
      → SameHeaders (kind_said said) frame other
  same_headers said same =
      let r = reads (named said.kind) same in
      let k = kind_of said.kind in
      let present = said.field in
      record {
        long = long;
        rules = ap (λ (t : Bool). t && (not present || k.may_end_in_field)) r.rules;
        header = r.header;
        trailer = ap (λ (f : ℕ). f + check_field_length present) r.trailer;
        length_ok = r.length_ok;
        spacecraft = r.spacecraft;
        channel = r.channel;
        map = r.map;
      }

-- ---- so they obey alike, and what stands between security header and MAC is equally long

module _ {k : Kind} {frame other : List ℕ} (a : SameHeaders k frame other) where
  pub same-obeys : (secured : Bool) → obeys k other secured ≡ obeys k frame secured
  unfolding obeys
  same-obeys secured = cc

  pub same_short : (s : ℕ) → too_short k s other ≡ too_short k s frame
  same_short s = cc

  content_long : (s : ℕ) (x : List ℕ) → length (secured_content k s x) ≡ mac_start k x - security_end k s x
  unfolding secured_content
  content_long s x = length-slice (security_end k s x) (mac_start k x) x (omega arith)

  pub same_clear : (h g : Held) → g.service ≡ h.service → clear_length g k other ≡ clear_length h k frame
  unfolding clear_length text_in
  same_clear h g e = cc (content_long (security_length g) other, content_long (security_length h) frame)

  pub same_number : (h g : Held) → g.service ≡ h.service → g.naming ≡ h.naming → field_in g k other ≡ field_in h k frame
      → number_in g k other ≡ number_in h k frame
  unfolding number_in
  same_number h g services names fields = cc
