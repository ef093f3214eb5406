-- `plan_arcs::gaps::count_named`: the gaps before rank x are counted, and their ranks taken off the circuit's.
-- Assumes nothing.
use Prim.Native.Nat.{◌-◌}
use Rattle.plan_rules.specs.Planned.{device}
use Rattle.plan_rules.specs.Rules.{Ruled}
use Rattle.plan_arcs.specs.Arcs.{arcs_of}
use Rattle.plan_arcs.proofs.Found.{Counting}
use Rattle.plan_arcs.proofs.gaps.count_named.Given as goal

abbrev pub invariant-loop-gap : goal.invariant-loop-gap
invariant-loop-gap l = Counting l.circuit.size (arcs_of l.circuit.size l.circuit.ruled.plan) l.left l.gaps l.x × Ruled device l.circuit.ruled.plan

abbrev pub decreases-loop-gap : goal.decreases-loop-gap
decreases-loop-gap l = l.circuit.size - l.x
