-- `release_data` is right because it releases the text of the frame under the field of its security header.
-- Assumes nothing.
use mathlib.Core.Path.{◌∙◌, ap₂}
use mathlib.Core.List.{List}
use Prim.Native.Nat.{ℕ}
use native.Mathlib.Omega.{arith}
use lib.ListN.{drop, length-take, length-drop}
use Rattle.octets.specs.Output.{written}
use Rattle.services.specs.SecurityHeader.{service_in}
use Rattle.protection.specs.Protection.{field_in, clear_data}
use Rattle.opening.proofs.Reading.{placed, key_expanded, security_lent, text_lent, text-long}
use Rattle.opening.proofs.checked.release_data.Goals as goal

pub release-requires : goal.release-requires
release-requires c =
    let g = c.args in
    let opens = c.requires.opens in
    let p = placed g.opening g.frame.now opens.0 in
    let l = text-long g.opening g.frame.now opens.0 in record {
      lent = c.requires.lent;
      expanded_value = (
        key_expanded g.opening g.frame.now opens.0,
        rw (length-take, length-drop) (omega arith),
        rw (length-take, length-drop) (omega arith),
        rw (length-take, length-drop) (omega (arith, l, opens.1)),
      );
    }

pub returns : goal.returns
unfolding clear_data field_in
returns c =
    let g = c.args in
    let h = g.opening.held in
    let opens = c.requires.opens.0 in
    c.release.ensures
    ∙ ap₂ (λ (s t : List ℕ). written ((service_in h).coming_in h.key (drop 2 s) t) g.output.now)
    (security_lent g.opening g.frame.now opens) (text_lent g.opening g.frame.now opens)

pub slice_bounds-release-count : goal.slice_bounds-release-count
slice_bounds-release-count c = omega (arith, placed c.args.opening c.args.frame.now c.requires.opens.0)

pub slice_bounds-release-start : goal.slice_bounds-release-start
slice_bounds-release-start c = omega (arith, placed c.args.opening c.args.frame.now c.requires.opens.0)

pub slice_bounds-release-end : goal.slice_bounds-release-end
slice_bounds-release-end c = omega (arith, placed c.args.opening c.args.frame.now c.requires.opens.0)

pub slice_bounds-release-count-2 : goal.slice_bounds-release-count-2
slice_bounds-release-count-2 c = omega (arith, placed c.args.opening c.args.frame.now c.requires.opens.0)

pub slice_bounds-release-start-2 : goal.slice_bounds-release-start-2
slice_bounds-release-start-2 c = omega (arith, placed c.args.opening c.args.frame.now c.requires.opens.0)

pub slice_bounds-release-end-2 : goal.slice_bounds-release-end-2
slice_bounds-release-end-2 c = omega (arith, placed c.args.opening c.args.frame.now c.requires.opens.0)
