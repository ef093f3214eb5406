-- `dictionary_walk::rows::take_jack` meets its contract: each turn turns one place of the row into a difference. The loop's invariant: the places before k have
-- the row of one jack less.
-- Assumes nothing.
use native.Mathlib.Omega.{arith}
use Rattle.dictionary_walk.proofs.Between.{between-up, up_fits}
use Rattle.dictionary_walk.proofs.rows.take_jack.Goals as goal

pub overflow_sub-row : goal.overflow_sub-row
overflow_sub-row c =
    up_fits _ c.loop-k.k _ c.loop-k.row (omega arith) (omega arith) c.requires.0 c.loop-k.invariant

pub loop-k-preserved : goal.loop-k-preserved
loop-k-preserved c =
    between-up _ c.loop-k.k _ c.loop-k.row (omega arith) (omega arith) c.requires.0 c.loop-k.invariant
