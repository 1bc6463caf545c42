-- `exceeds` is right because it compares the two numbers that the definition compares.
-- Assumes nothing.
use mathlib.Core.Path.{ap₂}
use lib.Dec.{ltb}
use Rattle.frame.proofs.parts.exceeds.Goals as goal

pub returns : goal.returns
returns c = ap₂ ltb c.largest.ensures c.secured_length.ensures
