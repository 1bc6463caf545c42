-- `mac_right` is right because what it compares is made of the very parts that the frame has.
-- Assumes nothing.
use mathlib.Core.Path.{◌≡◌, sym, ap, ap₂, ◌∙◌}
use mathlib.Core.List.{List}
use Prim.Native.Nat.{ℕ, ◌+◌, ◌-◌}
use native.Mathlib.Omega.{arith}
use lib.ListN.{length, take, length-take, length-drop}
use lib.Seq.{length-take-le}
use Rattle.octets.specs.Same.{same}
use Rattle.kinds.specs.Kinds.{framed}
use Rattle.frame.specs.Parts.{security_of}
use Rattle.services.specs.SecurityHeader.{security_length}
use Rattle.protection.specs.Protection.{most_before, field_in, covered_in, text_in, mac_right}
use Rattle.services.specs.Steps.{mac_under}
use Rattle.protection.proofs.Covering.{covered_most, long-before, front}
use Rattle.opening.proofs.Reading.{placed, key_expanded, security_lent, text_lent, mac_read}
use Rattle.opening.proofs.checked.mac_right.Goals.{After-cover-covered}
use Rattle.opening.proofs.checked.mac_right.Goals as goal

pub overflow_sub-security : goal.overflow_sub-security
overflow_sub-security c = omega (arith, placed c.args.opening c.args.frame.now c.requires.opens)

pub cover-covered-requires : goal.cover-covered-requires
cover-covered-requires c =
    let g = c.args in
    let t = covered_most g.opening.held g.opening.framing g.frame.now in
    let p = placed g.opening g.frame.now c.requires.opens in
    (omega arith, omega arith)

long : (c : After-cover-covered) → let o = c.args.opening in o.parts.security - o.parts.header ≡ security_length o.held
long c = let p = placed c.args.opening c.args.frame.now c.requires.opens in omega arith

counted : (c : After-cover-covered) → let g = c.args in
    c.cover-covered.result ≡ (framed g.opening.framing).header g.frame.now + security_length g.opening.held
counted c = omega (arith, c.cover-covered.ensures.value, long c)

filled : (c : After-cover-covered) → length c.cover-covered.new.out ≡ most_before
filled c =
    let g = c.args in
    let o = g.opening in
    let p = placed g.opening g.frame.now c.requires.opens in
    long-before o.held o.framing g.frame.now (o.parts.security - o.parts.header) (long c) (omega arith) c.cover-covered.new.out
    c.cover-covered.ensures.out_after

covered : (c : After-cover-covered) → let g = c.args in
    take c.cover-covered.result c.cover-covered.new.out ≡ covered_in g.opening.held (framed g.opening.framing) g.frame.now
covered c =
    let g = c.args in
    let o = g.opening in
    let p = placed g.opening g.frame.now c.requires.opens in
    ap (λ (x : ℕ). take x c.cover-covered.new.out) c.cover-covered.ensures.value
    ∙ front o.held o.framing g.frame.now (o.parts.security - o.parts.header) (long c) (omega arith) c.cover-covered.new.out
    c.cover-covered.ensures.out_after

-- ---- the parts that are lent

pub slice_bounds-before-end : goal.slice_bounds-before-end
slice_bounds-before-end c =
    let g = c.args in
    let t = covered_most g.opening.held g.opening.framing g.frame.now in
    let d = (goal.at.slice_bounds-before-end c).After-cover-covered in
    omega (arith, counted d, filled d)

pub slice_bounds-mac_is_right-end-2 : goal.slice_bounds-mac_is_right-end-2
slice_bounds-mac_is_right-end-2 c =
    let g = c.args in
    let t = covered_most g.opening.held g.opening.framing g.frame.now in
    let d = (goal.at.slice_bounds-mac_is_right-end-2 c).After-cover-covered in
    sym (length-take-le _ _ (omega (arith, counted d, filled d)))

pub mac_is_right-requires : goal.mac_is_right-requires
mac_is_right-requires c =
    let g = c.args in
    let p = placed g.opening g.frame.now c.requires.opens in
    let t = covered_most g.opening.held g.opening.framing g.frame.now in record {
      lent = c.requires.lent;
      expanded_value = (
        key_expanded g.opening g.frame.now c.requires.opens,
        rw (length-take, length-drop) (omega arith),
        rw length-take (omega (arith, counted (goal.at.mac_is_right-requires c).After-cover-covered)),
        rw (length-take, length-drop) (omega arith),
      );
    }

pub returns : goal.returns
unfolding mac_right field_in
returns c =
    let o = c.args.opening in
    let f = c.args.frame.now in
    let k = framed o.framing in
    let mac = c.block_at-mac in
    let security = security_of k (security_length o.held) f in
    c.mac_is_right.ensures
    ∙ ap₂ (λ (s t : List ℕ). same (mac_under o.held s (take c.cover-covered.result c.cover-covered.new.out) t) mac.result)
    (security_lent o f c.requires.opens) (text_lent o f c.requires.opens)
    ∙ ap₂ (λ (b m : List ℕ). same (mac_under o.held security b (text_in o.held k f)) m) (covered (goal.at.returns c).After-cover-covered)
    (mac.ensures ∙ mac_read o f c.requires.opens)

pub slice_bounds-mac_is_right-count : goal.slice_bounds-mac_is_right-count
slice_bounds-mac_is_right-count c = omega (arith, placed c.args.opening c.args.frame.now c.requires.opens)

pub slice_bounds-mac_is_right-start : goal.slice_bounds-mac_is_right-start
slice_bounds-mac_is_right-start c = omega (arith, placed c.args.opening c.args.frame.now c.requires.opens)

pub slice_bounds-mac_is_right-end : goal.slice_bounds-mac_is_right-end
slice_bounds-mac_is_right-end c = omega (arith, placed c.args.opening c.args.frame.now c.requires.opens)

pub slice_bounds-mac_is_right-count-2 : goal.slice_bounds-mac_is_right-count-2
slice_bounds-mac_is_right-count-2 c = omega (arith, placed c.args.opening c.args.frame.now c.requires.opens)

pub slice_bounds-mac_is_right-start-2 : goal.slice_bounds-mac_is_right-start-2
slice_bounds-mac_is_right-start-2 c = omega (arith, placed c.args.opening c.args.frame.now c.requires.opens)

pub slice_bounds-mac_is_right-end-3 : goal.slice_bounds-mac_is_right-end-3
slice_bounds-mac_is_right-end-3 c = omega (arith, placed c.args.opening c.args.frame.now c.requires.opens)
