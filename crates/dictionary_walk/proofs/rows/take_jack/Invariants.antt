-- `dictionary_walk::rows::take_jack` meets its contract: each turn turns one place of the row into a difference. The loop's invariant: the places before k have
-- the row of one jack less.
-- Assumes nothing.
use Rattle.dictionary_walk.specs.Rows.{Between}
use Rattle.dictionary_walk.proofs.rows.take_jack.Given as goal

abbrev pub invariant-loop-k : goal.invariant-loop-k
invariant-loop-k l = Between l.m l.k l.row
