-- `logged` is right because each of its branches is the case of the definition that its tests name.
-- Assumes nothing.
use mathlib.Core.Path.{ap, ◌∙◌}
use Rattle.event_log.specs.Held.{lent_log}
use Rattle.event_log.specs.declared.events.Log.{Log}
use Rattle.notes.proofs.logged.Goals as goal

pub returns-then-tag-answer : goal.returns-then-tag-answer
returns-then-tag-answer c = let g = c.args in
    ap (λ (l : Log). lent_log l g.events.now) c.fresh.ensures ∙ simp (c.if-tag.true, c.if-tag-answer.true)

pub returns-then-tag : goal.returns-then-tag
returns-then-tag c = simp (c.if-tag.true, c.if-tag-answer.false)

pub returns : goal.returns
returns c = simp c.if-tag.false c.entered.ensures
