-- `put_digits` is right because it goes as the definition goes: a digit alone, or behind the digits of n / 10, which are one fewer at most.
-- Assumes nothing.
use native.Mathlib.Omega.{arith}
use Rattle.writing.proofs.Decimals.{digits_more, digits_longer}
use Rattle.writing.proofs.Puts.{put_then}
use Rattle.writing.proofs.decimal.+put_digits.Goals as goal

pub put_octet-requires-2 : goal.put_octet-requires-2
put_octet-requires-2 t c = let g = c.args in omega (arith, digits_longer g.most g.n (omega arith) (omega arith))

pub returns : goal.returns
returns t c =
    let g = c.args in
    rw (digits_more g.most g.n (omega arith) (omega arith), ← c.last_digit-2.ensures)
    (put_then c.put_digits-last.ensures c.put_octet-2.ensures)
