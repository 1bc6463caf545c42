-- `bodies_keyed` is right because the fold joins the tests of all bodies.
-- Assumes nothing.
use mathlib.Core.Path.{ap, ◌∙◌}
use mathlib.Core.Bool.{Bool, not, ◌||◌}
use mathlib.Core.List.{List}
use Prim.Native.Nat.{ℕ}
use lib.Dec.{eqb}
use Rattle.octets.specs.Lists.{all}
use Rattle.octets.proofs.Alls.{all_same}
use Rattle.bodies.specs.Body.{body_in, state_of, operational, key_id_of}
use Rattle.keys.specs.Keys.{active, key_in_state}
use Rattle.keys.proofs.Loops.{all_from_fold}
use Rattle.image.specs.Image.{body_place, body_of, keyed_ok}
use Rattle.image.proofs.Places.{body_placed}
use borrow.Author.Rules.{rules}
use Rattle.image.proofs.image.bodies_keyed.Goals as goal

pub returns : goal.returns
unfolding body_of
returns c = let image = c.args.image.now in
    let version = c.version_of-version.result in
    let body : ℕ → List ℕ = λ i. body_in image version (body_place c.layout_of-layout.result c.count_of-count.result i) in
    let test : ℕ → Bool = λ i. not (eqb (state_of (body i)) operational) || key_in_state image c.part_at-part.result c.key_count-keys.result active (key_id_of version (body i)) in
    all_from_fold test _ c.count_of-count.result c.fold.result (cc) c.fold.ensures.ran (λ a i b f' h. search rules)
    ∙ all_same c.count_of-count.result test (keyed_ok image) (λ i h. rw (body_placed image c.version_of-version.result c.count_of-count.result i c.layout_of-layout.result c.layout_of-layout.ensures.0 c.version_of-version.ensures c.count_of-count.ensures, c.version_of-version.ensures, c.part_at-part.ensures.0, c.key_count-keys.ensures))
    ∙ ap (λ n. all n (keyed_ok image)) c.count_of-count.ensures
