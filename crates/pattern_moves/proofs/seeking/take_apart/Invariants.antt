-- `pattern_moves::seeking::take_apart` meets its contract: each turn takes one level off, writes its number and looks whether it is open. The
-- invariant of the loop is `Going`.
-- Assumes nothing.
use Rattle.pattern_inverse.specs.Judged.{pattern_of}
use Rattle.pattern_moves.proofs.Down.{Going}
use Rattle.pattern_moves.proofs.seeking.take_apart.Given as goal

abbrev pub invariant-loop-t : goal.invariant-loop-t
invariant-loop-t l = Going l.initial.t.ports (pattern_of l.initial.t) l.back l.t l.levels l.forward l.found

abbrev pub decreases-loop-t : goal.decreases-loop-t
decreases-loop-t l = l.t.ports
