-- `pattern_moves::seeking::seek` meets its contract: each turn looks whether a level of the course is open. The loop's invariant is `Looking`.
-- Assumes nothing.
use mathlib.Core.Path.{◌≡◌, refl}
use native.Mathlib.Omega.{arith}
use Rattle.listing_course.proofs.Seeking.{found-down}
use Rattle.pattern_moves.proofs.Down.{looking-down}
use Rattle.pattern_moves.proofs.seeking.seek.Goals as goal

pub loop-m-preserved : goal.loop-m-preserved
loop-m-preserved c =
    rw (c.comes_first-forward.ensures, c.ports_below-m.ensures)
    (looking-down c.args.levels.now c.loop-m.m c.step_at-step.result _ (omega arith) c.loop-m.invariant c.step_at-step.ensures
    c.lowest-found.ensures.ports c.lowest-found.ensures.inner)

pub returns : goal.returns
returns c =
    let e : c.loop-m.m ≡ 2 = omega (arith, c.loop-m.invariant.two) in
    found-down (rw e at c.loop-m.invariant.course) (rw e at c.loop-m.invariant.seeking) c.args.back refl
