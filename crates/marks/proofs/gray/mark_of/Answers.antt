-- `mark_of` is right because the mark of a code's digits gives that of twice as many, and a code has thirty-two.
-- Assumes nothing.
use Rattle.marks.proofs.GrayCode.{decoded_double, decoded-one}
use Rattle.marks.proofs.gray.mark_of.Goals as goal

pub returns : goal.returns
returns c = let code = c.args.code in
    let two = decoded_double 1 code code (decoded-one code) in
    let four = decoded_double 2 code _ two in
    let eight = decoded_double 4 code _ four in
    decoded_double 16 code _ (decoded_double 8 code _ eight)
