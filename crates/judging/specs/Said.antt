-- What the caller says: the desk that makes the call (document 02, request 10), the number that names the kind of its frame, and whether a
-- check field ends the frame (request 4). Every definition and every promise takes it whole, so a caller who comes to say more adds a field.
-- Assumes nothing.
use Rattle.std.specs.Prelude.{ℕ, Bool, ltb}
use Rattle.kinds.specs.Kinds.{Kind, kind_of, with_check_field}
use Rattle.bodies.specs.Body.{last_desk}
use Rattle.judging.specs.declared.said.Said as code

abbrev pub Said : Type 0
Said = code.Said

-- the kind by which the frame is read
abbrev pub kind_said : Said → Kind
kind_said said = with_check_field said.field (kind_of said.kind)

-- a number behind the last desk's is no desk: answer 19
abbrev pub no_desk : ℕ → Bool
no_desk desk = ltb last_desk desk
