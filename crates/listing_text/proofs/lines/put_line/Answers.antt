-- `put_line` is right because it puts the parts of a line in the definition's order.
-- Assumes nothing.
use Rattle.listing_text.specs.Listing.{line}
use Rattle.writing.proofs.Puts.{put_then}
use Rattle.listing_text.proofs.lines.put_line.Goals as goal

pub returns : goal.returns
unfolding line
returns c = rw (← c.columns.ensures)
    (put_then (put_then c.put_fields-next.ensures c.put_next-end.ensures) c.put_octet.ensures)
