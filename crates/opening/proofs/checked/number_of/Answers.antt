-- `number_of` is right because it reads the number in the security header that is lent from the frame.
-- Assumes nothing.
use mathlib.Core.Path.{◌∙◌, ap}
use native.Mathlib.Omega.{arith}
use mathlib.Core.List.{List}
use Prim.Native.Nat.{ℕ}
use lib.ListN.{drop}
use Rattle.services.specs.SecurityHeader.{number_from}
use Rattle.protection.specs.Protection.{field_in, number_in}
use Rattle.opening.proofs.Reading.{placed, security_lent}
use Rattle.opening.proofs.checked.number_of.Goals as goal

pub slice_bounds-number_in-count : goal.slice_bounds-number_in-count
slice_bounds-number_in-count c = omega (arith, placed c.args.opening c.args.frame.now c.requires)

pub slice_bounds-number_in-start : goal.slice_bounds-number_in-start
slice_bounds-number_in-start c = omega (arith, placed c.args.opening c.args.frame.now c.requires)

pub slice_bounds-number_in-end : goal.slice_bounds-number_in-end
slice_bounds-number_in-end c = omega (arith, placed c.args.opening c.args.frame.now c.requires)

pub returns : goal.returns
unfolding number_in field_in
returns c = let g = c.args in
    c.number_in.ensures ∙ ap (λ (x : List ℕ). number_from g.opening.held (drop 2 x)) (security_lent g.opening g.frame.now c.requires)
