-- `encrypt_words` is right because each quarter of the words is one of the four tables.
-- Assumes nothing.
use mathlib.Core.Path.{◌≡◌, refl}
use native.Mathlib.Omega.{arith}
use lib.ListN.{length}
use Rattle.word_rounds.proofs.Mixing.{apart}
use Rattle.word_cipher.proofs.encrypt_words.Goals as goal

pub encrypt_apart-requires : goal.encrypt_apart-requires
encrypt_apart-requires c = let is = c.requires in
    let long : length c.args.tables.now ≡ 1024 = is.long in record {
      are_tables = record {
        at_first = apart is 0 0 (omega arith) refl;
        at_second = apart is 1 256 (omega arith) refl;
        at-third = apart is 2 512 (omega arith) refl;
        at-fourth = apart is 3 768 (omega arith) refl;
      };
      last_value = omega arith;
    }
