-- Document 02, requests 5 and 9: the tests of a command under the entry that it names, in the order of the papers: 15, 16, 17, 18 and 6.
-- Assumes nothing.
use Rattle.std.specs.Prelude.{ℕ, not, List, [], ◌∷◌, ltb, length}
use Rattle.bodies.specs.Body.{state_of}
use Rattle.image.specs.Image.{version_of, body_of}
use Rattle.judging.specs.Answers.{Test}
use Rattle.procedures.specs.Procedures.{Procedure}

-- under an entry and its last number, with that much room in the output
abbrev pub procedure_tests : Procedure → List ℕ → ℕ → ℕ → List ℕ → ℕ → List Test
procedure_tests p image e last value room =
    (15, not (p.asks (state_of (body_of image e))))
    ∷ (16, not (p.allows (version_of image) (body_of image e) last value))
    ∷ (17, not (p.knows image e value))
    ∷ (18, not (p.ready image e value))
    ∷ (6, ltb room (length (p.reply image e last value)))
    ∷ []
