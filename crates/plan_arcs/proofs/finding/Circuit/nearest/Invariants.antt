-- `plan_arcs::finding::Circuit::nearest`: `near` is how near the arcs from leg i on are.
-- Assumes nothing.
use mathlib.Core.Path.{◌≡◌}
use Prim.Native.Nat.{◌≤◌}
use lib.ListN.{length}
use Rattle.promise_arcs.specs.Finding.{nearest}
use Rattle.plan_rules.specs.Rules.{legs_of}
use Rattle.plan_arcs.proofs.Loops.{arcs_from}
use Rattle.plan_arcs.proofs.finding.Circuit.nearest.Given as goal

abbrev pub invariant-loop-i : goal.invariant-loop-i
invariant-loop-i l = (l.i ≤ length (legs_of l.self.ruled.plan)) × (l.near ≡ nearest l.self.size (arcs_from l.self.size (legs_of l.self.ruled.plan) l.i) l.e)
