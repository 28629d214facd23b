-- `texts::text::put_digits` meets its contract; the measure is the number of digits still allowed. Assumes nothing.
use Rattle.texts.proofs.text.+put_digits.Given as goal

abbrev pub decreases-put_digits : goal.decreases-put_digits
decreases-put_digits l = l.left
