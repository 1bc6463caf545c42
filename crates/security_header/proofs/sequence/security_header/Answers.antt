-- `security_header` is right because the number's four octets end where the service's header does, what names the association stands before them, and all between is 0.
-- Assumes nothing.
use mathlib.Core.Path.{◌∙◌}
use Rattle.security_header.proofs.Fields.{header_made}
use borrow.Author.Rules.{rules}
use Rattle.security_header.proofs.sequence.security_header.Goals as goal

pub returns : goal.returns
returns c = let g = c.args in
    let spi = c.copy_from_slice.ensures.after ∙ c.to_be_bytes.ensures in
    let naming = c.copy_from_slice-2.ensures.after ∙ c.to_be_bytes-2.ensures in
    let n = c.copy_from_slice-3.ensures.after ∙ c.to_be_bytes-3.ensures in
    rw (c.security_length.ensures.0, spi, naming, n) (header_made g.number g.spi g.naming g.n (search rules) (search rules))
