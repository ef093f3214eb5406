-- `plan_arcs::gaps::put_gaps`: the gaps before rank x are written, and with the rest behind them the slice is as it has to be.
-- Assumes nothing.
use mathlib.Core.Path.{◌≡◌}
use Prim.Native.Nat.{◌-◌}
use lib.ListN.{length}
use Rattle.plan_rules.specs.Planned.{device}
use Rattle.plan_rules.specs.Rules.{Ruled}
use Rattle.plan_arcs.specs.Arcs.{arcs_of}
use Rattle.plan_arcs.proofs.Found.{Writing}
use Rattle.plan_arcs.proofs.gaps.put_gaps.Given as goal

abbrev pub invariant-loop-gap : goal.invariant-loop-gap
invariant-loop-gap l = Writing l.circuit.size (arcs_of l.circuit.size l.circuit.ruled.plan) l.initial.out l.out l.at l.x × Ruled device l.circuit.ruled.plan × (length l.out ≡ length l.initial.out)

abbrev pub decreases-loop-gap : goal.decreases-loop-gap
decreases-loop-gap l = l.circuit.size - l.x
