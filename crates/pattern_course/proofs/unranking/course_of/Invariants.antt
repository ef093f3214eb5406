-- `pattern_course::unranking::course_of` meets its contract: each turn writes the level that the rank names. The loop's invariant: the levels above m are those
-- on the way down to the pattern of the rank that is left.
-- Assumes nothing.
use mathlib.Core.Path.{◌≡◌}
use Prim.Native.Nat.{◌<◌}
use lib.ListN.{length}
use Rattle.listing.specs.Count.{count}
use Rattle.listing.specs.Listing.{at}
use Rattle.listing.specs.Limits.{most_ports}
use Rattle.listing_course.specs.Course.{Traced}
use Rattle.pattern_course.proofs.unranking.course_of.Given as goal

abbrev pub invariant-loop-m : goal.invariant-loop-m
invariant-loop-m l =
    (length l.levels ≡ most_ports) × (l.left < count l.m) × Traced l.levels l.n (at l.n l.rank) l.m (at l.m l.left)

abbrev pub decreases-loop-m : goal.decreases-loop-m
decreases-loop-m l = l.m
