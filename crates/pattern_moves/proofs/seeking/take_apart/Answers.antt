-- `pattern_moves::seeking::take_apart` meets its contract: each turn takes one level off, writes its number and looks whether it is open. The
-- invariant of the loop is `Going`.
-- Assumes nothing.
use mathlib.Core.Path.{◌≡◌}
use native.Mathlib.Omega.{arith}
use Rattle.pattern_moves.proofs.Down.{going-down, going_end}
use Rattle.pattern_moves.proofs.seeking.take_apart.Goals as goal

pub loop-t-preserved : goal.loop-t-preserved
loop-t-preserved c =
    rw (c.block_of.ensures, c.comes_first-forward.ensures)
    (going-down c.loop-t.t c.peel-c.new.t c.loop-t.levels _ _ c.args.t.now.fits (omega (arith, c.loop-t-test.true)) c.loop-t.invariant
    c.peel-c.ensures c.lowest-found.ensures.ports c.lowest-found.ensures.inner)

pub returns-clause-course : goal.returns-clause-course
returns-clause-course c =
    let e : c.loop-t.t.ports ≡ 2 = omega (arith, c.loop-t.invariant.two) in
    (going_end c.loop-t.t c.loop-t.levels c.loop-t.invariant e).0

pub returns-clause-sought : goal.returns-clause-sought
returns-clause-sought c =
    let e : c.loop-t.t.ports ≡ 2 = omega (arith, c.loop-t.invariant.two) in
    (going_end c.loop-t.t c.loop-t.levels c.loop-t.invariant e).1
