-- `write_text` is right because what the MAC covers is read from the output as it stands, and the data goes behind it.
-- Assumes nothing.
use mathlib.Core.Path.{◌≡◌, sym, ap, ◌∙◌}
use mathlib.Core.List.{List}
use Prim.Native.Nat.{ℕ, ◌+◌}
use native.Mathlib.Omega.{arith}
use lib.ListN.{length, take}
use lib.Seq.{length-take-le}
use Rattle.kinds.specs.Kinds.{framed}
use Rattle.services.specs.SecurityHeader.{security_length}
use Rattle.protection.specs.Protection.{most_before, covered_in}
use Rattle.services.specs.Steps.{text_under, mac_under}
use Rattle.protection.proofs.Covering.{covered_most, long-before, front}
use borrow.Author.Rules.{rules}
use Rattle.sealing.proofs.secured.write_text.Goals.{After-cover-covered}
use Rattle.sealing.proofs.secured.write_text.Goals as goal

pub cover-covered-requires : goal.cover-covered-requires
cover-covered-requires c =
    let g = c.args in
    let t = covered_most g.held g.framing g.output.now in
    (omega arith, omega arith)

counted : (c : After-cover-covered) → let g = c.args in
    c.cover-covered.result ≡ (framed g.framing).header g.output.now + security_length g.held
counted c = omega (arith, c.cover-covered.ensures.value)

filled : (c : After-cover-covered) → length c.cover-covered.new.out ≡ most_before
filled c =
    let g = c.args in
    long-before g.held g.framing g.output.now (length g.security.now) (search rules) (omega arith) c.cover-covered.new.out
    c.cover-covered.ensures.out_after

covered : (c : After-cover-covered) → let g = c.args in
    take c.cover-covered.result c.cover-covered.new.out ≡ covered_in g.held (framed g.framing) g.output.now
covered c =
    let g = c.args in
    ap (λ (x : ℕ). take x c.cover-covered.new.out) c.cover-covered.ensures.value
    ∙ front g.held g.framing g.output.now (length g.security.now) (search rules) (omega arith) c.cover-covered.new.out
    c.cover-covered.ensures.out_after

pub slice_bounds-before-end : goal.slice_bounds-before-end
slice_bounds-before-end c =
    let g = c.args in
    let t = covered_most g.held g.framing g.output.now in
    let d = (goal.at.slice_bounds-before-end c).After-cover-covered in
    omega (arith, counted d, filled d)

pub slice_bounds-protect-end : goal.slice_bounds-protect-end
slice_bounds-protect-end c =
    let g = c.args in
    let t = covered_most g.held g.framing g.output.now in
    let d = (goal.at.slice_bounds-protect-end c).After-cover-covered in
    sym (length-take-le _ _ (omega (arith, counted d, filled d)))

pub returns-clause-value : goal.returns-clause-value
returns-clause-value c =
    let g = c.args in
    let text = text_under g.held g.security.now g.clear.now in
    c.protect.ensures.value
    ∙ ap (λ (b : List ℕ). mac_under g.held g.security.now b text) (covered (goal.at.returns-clause-value c).After-cover-covered)
