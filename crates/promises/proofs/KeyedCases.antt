-- The octets of version 3 are as request 9 has them, by computing.
-- Assumes nothing.
use mathlib.Core.Path.{refl}
use Rattle.promises.specs.KeyedCases.{keyed_cases, KeyedCasesHold}
use Rattle.promises.proofs.Computing.{everything}

pub keyed-cases_hold : KeyedCasesHold
unfolding everything keyed_cases
keyed-cases_hold = refl
