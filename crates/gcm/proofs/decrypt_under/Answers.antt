-- A text that GCTR made is the plaintext.
-- Assumes nothing.
use Rattle.std.proofs.Common.{sym, ◌∙◌}
use Rattle.gcm.proofs.Made.{decrypt_made}
use Rattle.gcm.proofs.decrypt_under.Goals as goal

pub returns : goal.returns
returns c = let given = c.args in
    decrypt_made given.expanded.now given.iv given.ciphertext.now given.out.now _ c.if-out-ciphertext.false c.crypt.ensures
    (sym c.text_too_long.ensures ∙ c.if-text_too_long.false)
