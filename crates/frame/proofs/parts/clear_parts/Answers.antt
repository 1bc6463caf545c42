-- `clear_parts` is right because each of its numbers is one that the definition names.
-- Assumes nothing.
use Rattle.frame.proofs.parts.clear_parts.Goals as goal

pub returns : goal.returns
returns c = rw (
  c.saturating_sub-2.ensures,
  c.field_length.ensures,
  c.saturating_sub.ensures,
  c.trailer_length.ensures,
  c.header_length.ensures,
)
