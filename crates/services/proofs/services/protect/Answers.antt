-- A frame of service 2 is sealed by GCM with its field as IV, and one of service 1 is copied and signed by CMAC.
-- Assumes nothing.
use Rattle.std.proofs.Common.{◌≡◌, List, ◌++◌, ℕ, Result, Ok, ap, ◌∙◌, rules}
use Rattle.octets.specs.Output.{written}
use Rattle.octets.proofs.Filling.{with_room}
use Rattle.cmac.specs.Mac.{cmac_under}
use Rattle.gcm.specs.Calls.{Call, call}
use Rattle.gcm.specs.declared.Refusal.{Refusal}
use Rattle.services.specs.Steps.{text_under, mac_under}
use Rattle.services.proofs.Chosen.{signs}
use Rattle.services.proofs.Ciphers.{sealing}
use Rattle.services.proofs.services.protect.Goals.{After-seal_under}
use Rattle.services.proofs.services.protect.Goals as goal

only : {r : Result (List ℕ) Refusal} {m n : List ℕ} → r ≡ Ok m → r ≡ Ok n → m ≡ n
only em en = cc

sealed : (c : After-seal_under) → let g = c.args in
    let text = text_under g.held g.security.now g.clear.now in
    call c.seal_under.result c.seal_under.new.out ≡ call (Ok (mac_under g.held g.security.now g.before.now text)) (written text g.text.now)
sealed c = let g = c.args in
    c.seal_under.ensures
    ∙ sealing g.held g.security.now c.if-held-eq2.true c.requires.security_len.0 c.iv_in.result c.iv_in.ensures
    g.before.now c.requires.security_len.1 c.expand_key-expanded.result c.expand_key-expanded.ensures g.clear.now g.text.now c.requires.security_len.2
    c.requires.security_len.3

pub unwrap-requires : goal.unwrap-requires
unwrap-requires c = let e = ap (λ (x : Call (Result (List ℕ) Refusal)). x.result) (sealed (goal.at.unwrap-requires c).After-seal_under) in
    search rules

pub returns-then-held-eq2 : goal.returns-then-held-eq2
returns-then-held-eq2 c = let e = sealed (goal.at.returns-then-held-eq2 c).After-seal_under in
    record { value = only c.unwrap.ensures (ap (λ (x : Call (Result (List ℕ) Refusal)). x.result) e); text_after = ap (λ (x : Call (Result (List ℕ) Refusal)). x.out) e }

pub returns : goal.returns
returns c = let g = c.args in
    rw (signs g.held.service c.if-held-eq2.false, text_under, mac_under) record {
      value = c.mac_under.ensures ∙ ap (λ (w : List ℕ). cmac_under w (g.before.now ++ g.clear.now)) c.expand_key-expanded.ensures;
      text_after = c.put.ensures ∙ with_room g.clear.now g.text.now (search rules);
    }
