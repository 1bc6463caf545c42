-- `entries_ok` is right because each turn joins the tests of one entry more, and hands its SPI to the next.
-- Assumes nothing.
use mathlib.Core.Path.{◌≡◌, refl, sym, ap, ◌∙◌}
use mathlib.Core.List.{List}
use Prim.Native.Nat.{ℕ, ◌+◌, ◌-◌, ◌<◌}
use native.Mathlib.Omega.{arith}
use native.Mathlib.Numerals.{add-one}
use borrow.Author.Tests.{ne_eqb}
use Rattle.octets.specs.Lists.{all}
use Rattle.octets.specs.Numbers.{number_at}
use Rattle.image.specs.Image.{count_of, spi_of, spi_before, body_at, body_of}
use Rattle.image.proofs.ValidImages.{laid_out_lem}
use Rattle.image.proofs.Places.{body-inside, entry-inside, body_placed}
use Rattle.image.proofs.image.entries_ok.Goals as goal

-- before the next entry stands this one's SPI
before-next : (image : List ℕ) (i : ℕ) → spi_before image (i + 1) ≡ spi_of image i
before-next image i = let here : i + 1 - 1 ≡ i = omega arith in simp (ne_eqb (i + 1) 0 (omega arith), here)

pub loop-i-init : goal.loop-i-init
unfolding all
loop-i-init c = (refl, refl)

pub entry_ok-requires : goal.entry_ok-requires
entry_ok-requires c = let image = c.args.image.now in
    let i = c.loop-i.i in
    let within : i < count_of image = omega arith in (
      entry-inside image (laid_out_lem image c.requires) i within,
      c.loop-i.invariant.0,
      c.body_place-at.ensures.0 ∙ body_placed image _ _ i _ c.layout_of-layout.ensures.0 c.version_of-version.ensures c.count_of-count.ensures,
    )

pub body_inside_ok-requires : goal.body_inside_ok-requires
body_inside_ok-requires c = let image = c.args.image.now in
    let i = c.loop-i.i in
    let within : i < count_of image = omega arith in
    let at : c.body_place-at.result ≡ body_at image i = c.body_place-at.ensures.0 ∙ body_placed image _ _ i _ c.layout_of-layout.ensures.0 c.version_of-version.ensures c.count_of-count.ensures in
    rw (at, c.version_of-version.ensures) (body-inside image (laid_out_lem image c.requires) i within)

pub two_inside-before-requires : goal.two_inside-before-requires
two_inside-before-requires c = let image = c.args.image.now in
    let i = c.loop-i.i in
    let within : i < count_of image = omega arith in
    omega (arith, entry-inside image (laid_out_lem image c.requires) i within, c.entry_place.ensures)

pub loop-i-preserved : goal.loop-i-preserved
unfolding all body_of
loop-i-preserved c = let image = c.args.image.now in
    let i = c.loop-i.i in
    let place = c.body_place-at in
    let at : place.result ≡ body_at image i = place.ensures.0 ∙ body_placed image _ _ i _ c.layout_of-layout.ensures.0 c.version_of-version.ensures c.count_of-count.ensures in (
      c.two_inside-before.ensures ∙ ap (λ p. number_at p 2 image) c.entry_place.ensures ∙ sym (before-next image i),
      rw (
        add-one,
        c.body_inside_ok.ensures,
        c.entry_ok.ensures,
        at,
        c.version_of-version.ensures,
        c.loop-i.invariant.1,
      ),
    )
