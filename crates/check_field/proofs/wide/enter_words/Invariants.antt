use mathlib.Core.Path.{◌≡◌}
use Prim.Native.Nat.{◌*◌}
use Rattle.check_field.specs.CheckField.{check_field_of}
use Rattle.check_field.specs.Words.{narrow}
use Rattle.check_field.proofs.wide.enter_words.Given as goal

abbrev pub invariant-loop-words : goal.invariant-loop-words
invariant-loop-words l = narrow l.register ≡ check_field_of (l.words * 8) l.octets
