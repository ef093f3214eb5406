-- `pattern_course::unranking::put_course` meets its contract: each turn makes the step of the next level that is met. The loop's invariant: the buffer begins
-- with the pattern of m ports of the course.
-- Assumes nothing.
use mathlib.Core.Path.{refl, ◌∙◌}
use native.Mathlib.Omega.{arith}
use borrow.Author.Rules.{rules}
use Rattle.listing_course.specs.Course.{built}
use Rattle.listing_course.proofs.Courses.{course-none}
use Rattle.pattern_course.proofs.Ways.{front-pattern, next-a, made-a, next-b, made-b}
use Rattle.pattern_course.proofs.unranking.put_course.Goals as goal

pub loop-m-init : goal.loop-m-init
unfolding built
loop-m-init c = (search rules, refl, course-none _, refl)

pub step_b-requires : goal.step_b-requires
step_b-requires c =
    let n = next-b _ c.loop-m.out c.requires.1 c.loop-m.invariant.2 c.loop-m.invariant.3 (omega arith) c.if-levels-at-eq0.true in
    (omega arith, omega arith, front-pattern _ c.loop-m.out c.requires.1 c.loop-m.invariant.2 c.loop-m.invariant.3 (omega arith), n.1)

pub loop-m-preserved-then-levels-at-eq0 : goal.loop-m-preserved-then-levels-at-eq0
loop-m-preserved-then-levels-at-eq0 c =
    let n = next-b _ c.loop-m.out c.requires.1 c.loop-m.invariant.2 c.loop-m.invariant.3 (omega arith) c.if-levels-at-eq0.true in
    let m = made-b _ c.loop-m.out c.requires.1 c.loop-m.invariant.2 c.loop-m.invariant.3 (omega arith) c.if-levels-at-eq0.true _ c.step_b.ensures in
    (omega arith, c.step_b.auto.out ∙ c.loop-m.invariant.1, m.0, m.1)

pub step_a-requires : goal.step_a-requires
step_a-requires c = (
  omega arith,
  omega arith,
  front-pattern _ c.loop-m.out c.requires.1 c.loop-m.invariant.2 c.loop-m.invariant.3 (omega arith),
  next-a _ c.loop-m.out c.requires.1 c.loop-m.invariant.2 c.loop-m.invariant.3 (omega arith) c.if-levels-at-eq0.false,
)

pub loop-m-preserved : goal.loop-m-preserved
loop-m-preserved c =
    let m = made-a _ c.loop-m.out c.requires.1 c.loop-m.invariant.2 c.loop-m.invariant.3 (omega arith) c.if-levels-at-eq0.false _ c.step_a.ensures in
    (omega arith, c.step_a.auto.out ∙ c.loop-m.invariant.1, m.0, m.1)
