-- `dictionary_walk::rows::row_of` meets its contract: from the row of no jacks, one jack more each turn.
-- Assumes nothing.
use Rattle.dictionary_walk.specs.Rows.{Row}
use Rattle.dictionary_walk.proofs.rows.row_of.Given as goal

abbrev pub invariant-loop-k : goal.invariant-loop-k
invariant-loop-k l = Row l.k l.row
