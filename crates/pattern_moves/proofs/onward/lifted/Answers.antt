-- `pattern_moves::onward::lifted` meets its contract: each turn passes the next level that is met. The loop's invariant: the move is the first one, lifted to
-- the list for m ports.
-- Assumes nothing.
use Prim.Native.Nat.{suc, ◌<◌}
use native.Mathlib.Omega.{arith}
use Rattle.listing_course.proofs.Courses.{up-b}
use Rattle.pattern_moves.proofs.Lifts.{lifted-fits, lift-a, lift-b}
use Rattle.pattern_moves.proofs.onward.lifted.Goals as goal
use Rattle.pattern_moves.proofs.onward.lifted.Goals.{Then-levels-at-eq0}

-- over a level that is skipped there is one more
over : (c : Then-levels-at-eq0) → suc c.loop-m.m < c.args.n
over c =
    (up-b c.requires.course.0 (omega arith) c.if-levels-at-eq0.true).0

pub raised_by-v-requires : goal.raised_by-v-requires
raised_by-v-requires c =
    lifted-fits _ _ _ _ _ c.loop-m.invariant.2 c.loop-m.invariant.0 c.loop-m.invariant.3 (omega arith) c.requires.goes

pub loop-m-preserved-then-levels-at-eq0 : goal.loop-m-preserved-then-levels-at-eq0
loop-m-preserved-then-levels-at-eq0 c =
    let u = lift-b _ _ _ _ _ c.loop-m.invariant.2 c.loop-m.invariant.0 c.loop-m.invariant.3 c.requires.course.0 (omega arith) c.if-levels-at-eq0.true in
    (omega arith, omega (arith, over (goal.at.loop-m-preserved-then-levels-at-eq0 c).Then-levels-at-eq0), u.0, rw c.raised_by-v.ensures u.1)

pub loop-m-preserved : goal.loop-m-preserved
loop-m-preserved c =
    let u = lift-a _ _ _ _ _ c.loop-m.invariant.2 c.loop-m.invariant.0 c.loop-m.invariant.3 c.requires.course.0 (omega arith) c.if-levels-at-eq0.false in
    (omega arith, omega arith, u.0, u.1)
