-- Document 02, request 1: the rule on the header of an AOS frame.
-- Assumes nothing.
use Rattle.std.specs.Prelude.{ℕ, Bool, List, eqb}
use Rattle.headers.specs.Fields.{aos_version}

-- version is 01; frame count and signalling may hold anything
abbrev pub aos_rules : List ℕ → Bool
aos_rules frame = eqb (aos_version frame) 1
