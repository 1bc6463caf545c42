-- `keep_entries` is right because each turn puts an entry behind those kept before it, if it may be kept beside them.
-- Assumes nothing.
use mathlib.Core.Path.{sym, ◌∙◌}
use Rattle.salvage_entries.proofs.Gathering.{gathered_more, gathered_same}
use borrow.Author.Rules.{rules}
use Rattle.salvage_entries.proofs.keeping.keep_entries.Goals as goal
use Rattle.salvage_entries.proofs.keeping.keep_entries.Goals.{then-keepable, else-keepable}

pub loop-i-preserved : goal.loop-i-preserved
loop-i-preserved c = let test = sym c.keepable.ensures in
    elim c.if-keepable.branch [
      | then-keepable w ↦ rw (w.kept-is, w.count-is) (gathered_more (search rules) (test ∙ w.if-keepable.true) c.loop-i.invariant)
      | else-keepable w ↦ rw (w.kept-is, w.count-is) (gathered_same (test ∙ w.if-keepable.false) c.loop-i.invariant)
    ]
