-- `pattern_moves::onward::lifted` meets its contract: each turn passes the next level that is met. The loop's invariant: the move is the first one, lifted to
-- the list for m ports.
-- Assumes nothing.
use Prim.Native.Nat.{◌-◌, ◌≤◌}
use Rattle.words.specs.Meaning.{move_of}
use Rattle.listing_course.specs.Course.{Course}
use Rattle.listing_course.specs.Seeking.{Lifted}
use Rattle.pattern_moves.proofs.onward.lifted.Given as goal

abbrev pub invariant-loop-m : goal.invariant-loop-m
invariant-loop-m l = (2 ≤ l.m) × (l.m ≤ l.n) × Course l.levels l.m × Lifted l.levels l.from (move_of l.fn.first) l.m (move_of l.v)

abbrev pub decreases-loop-m : goal.decreases-loop-m
decreases-loop-m l = l.n - l.m
