-- Document 02, requests 5 and 10: what a management command is addressed to, the procedure that it calls and the entry that it names, and the
-- tests that come first: 1, 2, 19, 13 and 14.
-- Assumes nothing.
use Rattle.std.specs.Prelude.{ℕ, Bool, true, false, cond, not, ◌&&◌, ◌||◌, List, [], ◌∷◌, eqb, Option, Some, None}
use Rattle.bodies.specs.Body.{key_office}
use Rattle.image.specs.Image.{valid_image}
use Rattle.numbers.specs.Numbers.{agrees}
use Rattle.association.specs.Search.{with_spi}
use Rattle.judging.specs.Answers.{Test}
use Rattle.judging.specs.Said.{no_desk}
use Rattle.command_form.specs.Form.{tag_of, value_of, spi_named}
use Rattle.procedures.specs.Procedures.{Procedure, key_command, called, procedure_of}
use Rattle.procedures.specs.declared.procedure.Procedure as code

-- ---- from which desk, which procedure, and which entry

-- a number that is no desk's, or a key command from another desk than the key office's
abbrev pub wrong_desk : ℕ → List ℕ → Bool
wrong_desk desk command = no_desk desk || (key_command (tag_of command) && not (eqb desk key_office))

abbrev pub calls_none : Option code.Procedure → Bool
calls_none (Some p) = false
calls_none None = true

-- the entry that a value names, and whether the table has it for that desk; a procedure that names none is carried out with entry 0, which
-- it neither reads nor changes
unfoldable pub entry_named : Procedure → List ℕ → ℕ → List ℕ → Option ℕ
entry_named p image desk value = cond p.names (with_spi image desk (spi_named value)) (Some 0)

abbrev pub is_nothing : Option ℕ → Bool
is_nothing (Some i) = false
is_nothing None = true

-- the tests that come first
abbrev pub address_tests : List ℕ → List ℕ → ℕ → List ℕ → List Test
address_tests image last desk command =
    (1, not (valid_image image))
    ∷ (2, not (agrees image last))
    ∷ (19, wrong_desk desk command)
    ∷ (13, calls_none (called command))
    ∷ (14, is_nothing (entry_named (procedure_of command) image desk (value_of command)))
    ∷ []
