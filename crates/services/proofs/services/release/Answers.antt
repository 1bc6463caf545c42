-- Data of service 2 is decrypted by GCM with its field as IV, and data of service 1 is copied.
-- Assumes nothing.
use Rattle.std.proofs.Common.{◌≡◌, Result, Ok, ap, ◌∙◌, rules}
use Rattle.octets.specs.Output.{written}
use Rattle.octets.proofs.Filling.{with_room}
use Rattle.gcm.specs.Calls.{Call, call}
use Rattle.gcm.specs.declared.Refusal.{Refusal}
use Rattle.services.specs.Steps.{clear_under}
use Rattle.services.proofs.Chosen.{signs}
use Rattle.services.proofs.Ciphers.{releasing}
use Rattle.services.proofs.services.release.Goals.{After-decrypt_under}
use Rattle.services.proofs.services.release.Goals as goal

decrypted : (c : After-decrypt_under) → let g = c.args in
    call c.decrypt_under.result c.decrypt_under.new.out ≡ call (Ok tt) (written (clear_under g.held g.security.now g.text.now) g.out.now)
decrypted c = let g = c.args in
    c.decrypt_under.ensures
    ∙ releasing g.held g.security.now c.if-held-eq2.true (search rules) c.iv_in.result c.iv_in.ensures
    g.expanded.now (search rules) g.text.now g.out.now (search rules) (search rules)

pub unwrap-requires : goal.unwrap-requires
unwrap-requires c = let e = ap (λ (x : Call (Result (Unit {0}) Refusal)). x.result) (decrypted (goal.at.unwrap-requires c).After-decrypt_under) in
    search rules

pub returns-then-held-eq2 : goal.returns-then-held-eq2
returns-then-held-eq2 c = ap (λ (x : Call (Result (Unit {0}) Refusal)). x.out) (decrypted (goal.at.returns-then-held-eq2 c).After-decrypt_under)

pub returns : goal.returns
returns c = let g = c.args in
    rw (signs g.held.service c.if-held-eq2.false, clear_under)
    (c.put.ensures ∙ with_room g.text.now g.out.now (search rules))
