-- `pattern_moves::seeking::seek` meets its contract: each turn looks whether a level of the course is open. The loop's invariant is `Looking`.
-- Assumes nothing.
use Rattle.pattern_moves.proofs.Down.{Looking}
use Rattle.pattern_moves.proofs.seeking.seek.Given as goal

abbrev pub invariant-loop-m : goal.invariant-loop-m
invariant-loop-m l = Looking l.n l.back l.levels l.forward l.m l.found

abbrev pub decreases-loop-m : goal.decreases-loop-m
decreases-loop-m l = l.m
