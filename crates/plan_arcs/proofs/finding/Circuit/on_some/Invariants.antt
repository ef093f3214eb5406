-- `plan_arcs::finding::Circuit::on_some`: the rank lies on none of the arcs from leg i on.
-- Assumes nothing.
use mathlib.Core.Path.{◌≡◌}
use mathlib.Core.Bool.{false}
use Prim.Native.Nat.{◌≤◌}
use lib.ListN.{length}
use Rattle.promise_arcs.specs.Finding.{on_some}
use Rattle.plan_rules.specs.Rules.{legs_of}
use Rattle.plan_arcs.proofs.Loops.{arcs_from}
use Rattle.plan_arcs.proofs.finding.Circuit.on_some.Given as goal

abbrev pub invariant-loop-i : goal.invariant-loop-i
invariant-loop-i l = (l.i ≤ length (legs_of l.self.ruled.plan)) × (on_some l.self.size (arcs_from l.self.size (legs_of l.self.ruled.plan) l.i) l.r ≡ false)
