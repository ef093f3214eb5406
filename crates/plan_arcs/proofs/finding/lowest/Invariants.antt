-- `plan_arcs::finding::lowest`: `low` is the lowest of the places from i on.
-- Assumes nothing.
use mathlib.Core.Path.{◌≡◌}
use Prim.Native.Nat.{◌≤◌}
use lib.ListN.{length, drop}
use Rattle.promise_arcs.specs.Finding.{lowest}
use Rattle.plan_arcs.proofs.finding.lowest.Given as goal

abbrev pub invariant-loop-i : goal.invariant-loop-i
invariant-loop-i l = (l.i ≤ length l.starts) × (l.low ≡ lowest l.c l.x (drop l.i l.starts))
