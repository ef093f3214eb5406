-- `pattern_course::unranking::put_course` meets its contract: each turn makes the step of the next level that is met. The loop's invariant: the buffer begins
-- with the pattern of m ports of the course.
-- Assumes nothing.
use mathlib.Core.Path.{◌≡◌}
use Prim.Native.Nat.{◌-◌, ◌≤◌}
use lib.ListN.{length, take}
use Rattle.listing_course.specs.Course.{built, Course}
use Rattle.pattern_course.proofs.unranking.put_course.Given as goal

abbrev pub invariant-loop-m : goal.invariant-loop-m
invariant-loop-m l = (l.m ≤ length l.initial.out) × (length l.out ≡ length l.initial.out) × Course l.levels l.m × (take l.m l.out ≡ built l.levels l.m)

abbrev pub decreases-loop-m : goal.decreases-loop-m
decreases-loop-m l = length l.initial.out - l.m
