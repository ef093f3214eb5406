-- `dictionary_walk::rows::add_jack` meets its contract: each turn turns one place of the row into a sum, from the last down. The loop's invariant: the places
-- from k on have the row of one jack more.
-- Assumes nothing.
use Prim.Native.Nat.{suc}
use Rattle.dictionary_walk.specs.Rows.{Between}
use Rattle.dictionary_walk.proofs.rows.add_jack.Given as goal

abbrev pub invariant-loop-k : goal.invariant-loop-k
invariant-loop-k l = Between (suc l.m) l.k l.row
