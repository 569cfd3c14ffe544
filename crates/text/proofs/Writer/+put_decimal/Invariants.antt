-- `text::Writer::put_decimal` meets its contract. The measure is the number: a tenth of it is less where it has more digits than one.
use Rattle.text.proofs.Writer.+put_decimal.Given as goal

abbrev pub decreases-put_decimal : goal.decreases-put_decimal
decreases-put_decimal l = l.n
