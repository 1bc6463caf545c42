-- `keepable` is right because it joins the tests that the definition joins.
-- Assumes nothing.
use mathlib.Core.Path.{◌≡◌}
use Rattle.std.proofs.Common.{rules, tests, eqb}
use Rattle.std.specs.List.{list_any}
use Rattle.std.proofs.lemmas.Iterator.{YieldsList-from_slice}
use Rattle.std.proofs.lemmas.Iterator.Search.{any_from_yields_List}
use Rattle.image.specs.Image.{spi_of, position_of}
use Rattle.salvage_entries.specs.Kept.{keepable}
use Rattle.salvage_entries.proofs.keeping.keepable.Goals as goal

pub returns : goal.returns
unfolding keepable
returns c =
    let x = c.args.x.now in
    let before = c.args.before.now in
    let i = c.args.index in
    let spis : c.any.result ≡ list_any (λ h. eqb (spi_of x h) (spi_of x i)) before = any_from_yields_List (λ h. eqb (spi_of x h) (spi_of x i)) _ _ c.any.result c.any.ensures.ran (YieldsList-from_slice before cc) (λ y b q k. search (rules, tests)) in
    let places : c.any-2.result ≡ list_any (λ h. eqb (position_of x h) (position_of x i)) before = any_from_yields_List (λ h. eqb (position_of x h) (position_of x i)) _ _ c.any-2.result c.any-2.ensures.ran (YieldsList-from_slice before cc) (λ y b q k. search (rules, tests)) in
    rw (
      c.body_obeys.ensures,
      places,
      c.body_inside.ensures,
      c.at_place.ensures,
      spis,
      c.spi_allowed.ensures,
      c.is_whole.ensures,
    )
