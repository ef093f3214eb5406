-- `explaining_levels::put_why`: of the text, the lines of the levels that are left and the line of the rank are still to be put. The ports fall with each
-- level.
-- Assumes nothing.
use Rattle.pattern_inverse.specs.Judged.{pattern_of}
use Rattle.explaining_levels.proofs.Telling.{Telling}
use Rattle.explaining_levels.proofs.put_why.Given as goal

abbrev pub invariant-loop-t : goal.invariant-loop-t
invariant-loop-t l =
    Telling (pattern_of l.initial.t) l.initial.buf l.t l.forward l.rank l.at l.buf

abbrev pub decreases-loop-t : goal.decreases-loop-t
decreases-loop-t l = l.t.ports
