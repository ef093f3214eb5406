-- `dictionary_walk::ports::pass_over` meets its contract: each turn adds what one port comes to. The loop's invariant: the sum is what the ports below y come to.
-- Assumes nothing.
use mathlib.Core.Path.{◌≡◌}
use Prim.Native.Nat.{◌-◌, ◌≤◌}
use Rattle.listing_dictionary.specs.Number.{worth}
use Rattle.listing_dictionary.proofs.Walk.{total}
use Rattle.dictionary_walk.specs.Free.{frees}
use Rattle.dictionary_walk.proofs.ports.pass_over.Given as goal

abbrev pub invariant-loop-y : goal.invariant-loop-y
invariant-loop-y l = (l.y - 1 ≤ l.port - 1) × (l.sum ≡ total (worth l.shares.early l.shares.late l.jack) (frees l.taken 0 (l.y - 1)))
