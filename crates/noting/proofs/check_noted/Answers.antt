-- `check_noted` is right because the outcome is that of checking, and the notes are made from it, from the SPI on the frame and from the number
-- that the check told.
-- Assumes nothing.
use Rattle.link.specs.Calls.{checked}
use Rattle.notes.specs.Noting.{lent_notes}
use Rattle.noting.specs.Noted.{check_noted}
use Rattle.noting.proofs.Told.{check-told}
use Rattle.noting.proofs.check_noted.Goals as goal

pub returns : goal.returns
unfolding check_noted
returns c = let g = c.args in
    let told = c.check_telling-told.result in
    check-told (lent_notes g.notes g.events.now) c.note_check.result told.outcome _ _ _
    (checked g.image.now g.numbers.last g.said g.frame.now g.output.now)
    c.note_check.ensures.0 c.check_telling-told.ensures.output_after
    g.image.now g.numbers.last g.said g.frame.now c.spi_received-spi.result told.number
    c.note_check.ensures.1 c.spi_received-spi.ensures c.check_telling-told.ensures.number_value
