-- `pattern_course::unranking::course_of` meets its contract: each turn writes the level that the rank names. The loop's invariant: the levels above m are those
-- on the way down to the pattern of the rank that is left.
-- Assumes nothing.
use mathlib.Core.Path.{◌≡◌}
use Prim.Native.Nat.{◌≤◌}
use native.Mathlib.Omega.{arith}
use lib.ListN.{length-set}
use Rattle.listing.proofs.Counts.{two-ports}
use Rattle.listing_course.proofs.Courses.{traced-end}
use Rattle.pattern_course.specs.declared.types.Origin.{Origin}
use Rattle.pattern_course.proofs.Origins.{Makes, origin-makes}
use Rattle.pattern_course.proofs.Ways.{down-a, down-b, none_left}
use Rattle.pattern_course.proofs.unranking.course_of.Goals as goal
use Rattle.pattern_course.proofs.unranking.course_of.Goals.{After-origin, In-loop-m}

-- where there is a rank and a port there are two
two : (c : In-loop-m) → 2 ≤ c.loop-m.m
two c = two-ports (omega arith) c.loop-m.invariant.1

-- what the origin names makes the pattern
made : (c : After-origin) {named : Origin} → c.origin.result ≡ named
    → Makes c.loop-m.m c.loop-m.left named
made c e = origin-makes (omega arith) c.loop-m.invariant.1 c.origin.ensures e

pub origin-requires : goal.origin-requires
origin-requires c = (two c, omega (arith, c.loop-m.invariant.2.most), c.loop-m.invariant.1)

pub loop-m-preserved-in-ByA : goal.loop-m-preserved-in-ByA
loop-m-preserved-in-ByA c =
    let down = down-a c.loop-m.m c.loop-m.left _ _ c.loop-m.levels (two (goal.at.loop-m-preserved-in-ByA c).In-loop-m) c.loop-m.invariant.2 (omega arith) (made (goal.at.loop-m-preserved-in-ByA c).After-origin c.in-ByA.is) in
    (simp length-set c.loop-m.invariant.0, down.0, down.1)

pub overflow_sub-levels : goal.overflow_sub-levels
overflow_sub-levels c = omega (arith, two (goal.at.overflow_sub-levels c).In-loop-m)

pub overflow_sub-m-in-ByB : goal.overflow_sub-m-in-ByB
overflow_sub-m-in-ByB c = omega (arith, two (goal.at.overflow_sub-m-in-ByB c).In-loop-m)

pub loop-m-preserved : goal.loop-m-preserved
loop-m-preserved c =
    let down = down-b c.loop-m.m c.loop-m.left _ _ c.loop-m.levels (two (goal.at.loop-m-preserved c).In-loop-m) c.loop-m.invariant.2 (omega arith) (made (goal.at.loop-m-preserved c).After-origin c.in-ByB.is) in
    (simp length-set c.loop-m.invariant.0, down.0, down.1)

pub returns : goal.returns
returns c =
    let e : c.loop-m.m ≡ 0 = omega arith in
    traced-end c.loop-m.levels c.loop-m.invariant.2 e (none_left c.loop-m.m c.loop-m.left e)
