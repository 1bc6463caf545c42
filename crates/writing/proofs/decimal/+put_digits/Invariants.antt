-- `put_digits` goes on with one digit fewer each time.
use Rattle.writing.proofs.decimal.+put_digits.Given as goal

abbrev pub decreases-put_digits : goal.decreases-put_digits
decreases-put_digits l = l.most
