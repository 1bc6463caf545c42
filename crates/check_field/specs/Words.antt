-- The register of four words, as the code holds it, and the 16 bits that it stands for.
-- Assumes nothing.
use Rattle.std.specs.Prelude.{ℕ}
use Rattle.check_field.specs.declared.wide.WideRegister.{WideRegister}
use Rattle.check_field.specs.Register.{four_words}

abbrev pub narrow : WideRegister → ℕ
narrow v = four_words v.first v.second v.third v.fourth
