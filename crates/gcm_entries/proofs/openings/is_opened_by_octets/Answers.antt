-- `is_opened_by_octets` is right because it opens with the key, the IV and the tag of the line, and compares the plaintext where that was done.
-- Assumes nothing.
use Rattle.std.proofs.Common.{◌≡◌, Result, Ok, true, rules}
use Rattle.std.specs.Result.{is_ok}
use Rattle.gcm.specs.declared.Refusal.{Refusal}
use Rattle.gcm_entries.proofs.Calling.{opened-from}
use Rattle.gcm_entries.proofs.openings.is_opened_by_octets.Goals as goal

done : (r : Result (Unit {0}) Refusal) → is_ok r ≡ true → r ≡ Ok tt
done r e = grind rules

pub returns-then-is_ok : goal.returns-then-is_ok
returns-then-is_ok c e =
    let g = c.args in
    opened-from g.line.now g.additional.now g.ciphertext.now c.key.ensures c.iv.ensures c.front.ensures
    c.octets-tag.ensures c.open-opened.ensures
    (record { done = done c.open-opened.result (search rules); text = (c.is_field.ensures.0 e).1 })
