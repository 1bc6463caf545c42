-- `encrypt_words` is right because both engines give the cipher's block; where something is lent, it is the tables.
-- Assumes nothing.
use native.Mathlib.Omega.{arith}
use Rattle.engines.proofs.encrypt_words.Goals as goal

pub encrypt_words-requires : goal.encrypt_words-requires
encrypt_words-requires c = c.requires.tables (omega arith)

pub returns-then-tables-eq0 : goal.returns-then-tables-eq0
returns-then-tables-eq0 c = cc
