-- `dictionary_walk::walk::put_numbered` meets its contract: each turn gives one jack its port. The loop's invariant: the arrays are as the jacks so far leave them,
-- and the ports so far with those that the rest of the number makes are the pattern of the number.
-- Assumes nothing.
use mathlib.Core.Path.{◌≡◌}
use lib.ListN.{length}
use Rattle.dictionary_walk.specs.Free.{frees}
use Rattle.dictionary_walk.proofs.Jacks.{Walks}
use Rattle.dictionary_walk.proofs.Turns.{Made}
use Rattle.dictionary_walk.proofs.walk.put_numbered.Given as goal

abbrev pub invariant-loop-at : goal.invariant-loop-at
invariant-loop-at l =
    (length l.out ≡ length l.initial.out) × Walks (length l.initial.out) l.at l.taken l.row l.own × Made (length l.initial.out) l.number l.at (frees l.taken 0 (length l.initial.out)) l.out l.rest
