-- A recursion on the number, which has a digit less in each call.
use Rattle.text.proofs.print.+put_digits.Given as goal

abbrev pub decreases-put_digits : goal.decreases-put_digits
decreases-put_digits l = l.number
