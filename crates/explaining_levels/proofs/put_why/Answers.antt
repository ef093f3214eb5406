-- `explaining_levels::put_why`: of the text, the lines of the levels that are left and the line of the rank are still to be put. The ports fall with each
-- level.
-- Assumes nothing.
use native.Mathlib.Omega.{arith}
use borrow.Author.Rules.{rules}
use Rattle.line_refusal.specs.Words.{quoted}
use Rattle.explaining.specs.Text.{rank_text}
use Rattle.explaining_levels.proofs.Telling.{telling-first, level-room, sum_fits, telling-next, rank_room, rank-put}
use Rattle.explaining_levels.proofs.put_why.Goals as goal

pub loop-t-init : goal.loop-t-init
loop-t-init c = telling-first c.args.t.now _ c.requires.0 (omega (arith, c.args.t.now.fits)) c.requires.1

pub put_level-at-requires : goal.put_level-at-requires
put_level-at-requires c =
    level-room _ _ _ _ _ _ _ c.loop-t.invariant _ _ _ (omega (arith, c.loop-t-test.true)) c.peel-c.ensures c.placed_by-l.ensures

pub overflow_add-rank : goal.overflow_add-rank
overflow_add-rank c =
    sum_fits _ _ _ _ _ _ _ c.loop-t.invariant _ _ _ (omega (arith, c.loop-t-test.true)) c.peel-c.ensures c.placed_by-l.ensures

pub loop-t-preserved : goal.loop-t-preserved
loop-t-preserved c =
    telling-next _ _ _ _ _ _ _ c.loop-t.invariant _ _ _ (omega (arith, c.loop-t-test.true)) c.peel-c.ensures c.placed_by-l.ensures _ _
    c.put_level-at.ensures

pub put_line-requires : goal.put_line-requires
unfolding quoted rank_text
put_line-requires c =
    (search rules, rank_room _ _ _ _ _ _ _ c.loop-t.invariant (omega (arith, c.loop-t-test.false)))

pub returns-clause-puts : goal.returns-clause-puts
unfolding quoted rank_text
returns-clause-puts c = (rank-put _ _ _ _ _ _ _ c.loop-t.invariant (omega (arith, c.loop-t-test.false)) _ _ c.put_line.ensures).0

pub returns-clause-fits : goal.returns-clause-fits
unfolding quoted rank_text
returns-clause-fits c = (rank-put _ _ _ _ _ _ _ c.loop-t.invariant (omega (arith, c.loop-t-test.false)) _ _ c.put_line.ensures).1
