-- `marks_agree` is right because each turn joins the test of one entry more.
-- Assumes nothing.
use mathlib.Core.Path.{◌≡◌, refl, sym, ap, ap₂, ◌∙◌}
use mathlib.Core.List.{List}
use Prim.Native.Nat.{ℕ, ◌+◌, ◌<◌}
use native.Mathlib.Omega.{arith}
use native.Mathlib.Numerals.{add-one}
use Rattle.octets.specs.Lists.{all}
use Rattle.bodies.specs.Layout.{layout_of}
use Rattle.bodies.specs.declared.layout.Layout.{Layout}
use Rattle.image.specs.Image.{version_of, count_of, body_place, mark_at}
use Rattle.image.proofs.ValidImages.{valid}
use Rattle.image.proofs.Places.{body_placed, mark-behind-body, mark-inside, mark-at}
use Rattle.numbers.specs.Numbers.{agrees}
use Rattle.numbers.proofs.numbers.marks_agree.Goals as goal

-- the mark's place, reckoned from version and count
placed : (image : List ℕ) (version count i : ℕ) (l : Layout) → l ≡ layout_of version → version ≡ version_of image → count ≡ count_of image
    → body_place l count i + l.mark ≡ mark_at image i
placed image version count i l laid e k =
    ap₂ (λ (p : ℕ) (x : Layout). p + x.mark) (body_placed image version count i l laid e k) (laid ∙ ap layout_of e)
    ∙ sym (mark-behind-body image i)

pub loop-i-init : goal.loop-i-init
unfolding all
loop-i-init c = refl

pub bounds-numbers-i : goal.bounds-numbers-i
bounds-numbers-i c = omega (arith, (valid c.args.image.now c.requires).laid.count)

pub agrees_at-ok-requires : goal.agrees_at-ok-requires
agrees_at-ok-requires c = let image = c.args.image.now in
    let i = c.loop-i.i in
    let within : i < count_of image = omega arith in
    rw (c.mark_place.ensures, placed image _ _ i _ c.layout_of-layout.ensures.0 c.version_of.ensures c.count_of-count.ensures)
    (mark-inside image (valid image c.requires).laid i within)

pub loop-i-preserved : goal.loop-i-preserved
unfolding all
loop-i-preserved c = let image = c.args.image.now in
    let i = c.loop-i.i in
    let at : c.mark_place.result ≡ mark_at image i = c.mark_place.ensures ∙ placed image _ _ i _ c.layout_of-layout.ensures.0 c.version_of.ensures c.count_of-count.ensures in
    rw (c.agrees_at-ok.ensures, at, ← mark-at image i, c.loop-i.invariant, add-one)

pub returns : goal.returns
unfolding agrees
returns c = let e : c.loop-i.i ≡ count_of c.args.image.now = omega arith in
    rw (← e) c.loop-i.invariant
