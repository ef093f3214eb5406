-- `dictionary_walk::walk::number_of` meets its contract: each turn adds what the port of one jack passes over. The loop's invariant: the arrays are as the jacks
-- so far leave them, and the sum with the number of the jacks that are left is the number of the pattern.
-- Assumes nothing.
use lib.ListN.{length}
use Rattle.dictionary_walk.specs.Free.{frees}
use Rattle.dictionary_walk.proofs.Jacks.{Walks}
use Rattle.dictionary_walk.proofs.Turns.{Counted}
use Rattle.dictionary_walk.proofs.walk.number_of.Given as goal

abbrev pub invariant-loop-at : goal.invariant-loop-at
invariant-loop-at l =
    Walks (length l.p) l.at l.taken l.row l.own × Counted (length l.p) l.p l.at (frees l.taken 0 (length l.p)) l.sum
