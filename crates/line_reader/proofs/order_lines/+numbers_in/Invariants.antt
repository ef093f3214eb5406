-- The commas fall at each call.
use Rattle.line_reader.proofs.order_lines.+numbers_in.Given as goal

abbrev pub decreases-numbers_in : goal.decreases-numbers_in
decreases-numbers_in l = l.commas
