-- GCM judges a frame of service 2 with its field as IV, and CMAC one of service 1.
-- Assumes nothing.
use Rattle.std.proofs.Common.{ap, sym, ◌∙◌, rules}
use Rattle.std.specs.Result.{is_ok}
use Rattle.services.proofs.Ciphers.{judging, comparing}
use Rattle.services.proofs.services.mac_is_right.Goals as goal

pub returns-then-held-eq2 : goal.returns-then-held-eq2
returns-then-held-eq2 c = let g = c.args in
    c.is_ok.ensures.value
    ∙ ap is_ok c.check_under.ensures
    ∙ sym
    (judging g.held g.security.now c.if-held-eq2.true (search rules) c.iv_in.result c.iv_in.ensures g.before.now
    (search rules) g.expanded.now (search rules) g.text.now g.mac (search rules))

pub returns : goal.returns
returns c = let g = c.args in
    c.check_under-2.ensures
    ∙ comparing g.held c.if-held-eq2.false g.expanded.now (search rules) g.security.now g.before.now g.text.now g.mac
