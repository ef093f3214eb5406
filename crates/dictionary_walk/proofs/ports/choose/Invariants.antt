-- `dictionary_walk::ports::choose` meets its contract: each turn passes one port over. The loop's invariant: what is left of the number falls among the ports
-- from y on as the number does among all.
-- Assumes nothing.
use Prim.Native.Nat.{◌-◌}
use Rattle.listing_dictionary.specs.Number.{worth}
use Rattle.dictionary_walk.proofs.Flags.{Seeks}
use Rattle.dictionary_walk.proofs.ports.choose.Given as goal

abbrev pub invariant-loop-y : goal.invariant-loop-y
invariant-loop-y l = Seeks (worth l.shares.early l.shares.late l.jack) l.taken l.n l.number (l.y - 1) (l.n - (l.y - 1)) l.rest
