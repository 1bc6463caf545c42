-- `open` is refused just where the check is; behind it stands the decryption.
-- Assumes nothing.
use Rattle.std.proofs.Common.{sym, ◌∙◌, rules}
use Rattle.gcm.proofs.Laws.{opened_refused, opened-checked}
use Rattle.gcm.proofs.open.Goals as goal

pub returns-in_err-check_under : goal.returns-in_err-check_under
returns-in_err-check_under c = let g = c.args in
    let e = opened_refused g.key _ g.iv g.additional.now g.ciphertext.now g.tag g.out.now c.expand_key-expanded.ensures c.in_err-check_under.field-0.0
    (sym c.check_under.ensures ∙ c.in_err-check_under.was) in
    search rules

pub returns : goal.returns
returns c = let g = c.args in
    c.decrypt_under.ensures
    ∙ sym
    (opened-checked g.key _ g.iv g.additional.now g.ciphertext.now g.tag g.out.now c.expand_key-expanded.ensures
    (sym c.check_under.ensures ∙ c.in_ok-check_under.was))
