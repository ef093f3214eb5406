-- `plan_arcs::gaps::gap_from` finds the next gap by the places where gaps begin.
-- Assumes nothing.
use mathlib.Core.Path.{◌≡◌, ap, ◌∙◌}
use native.Mathlib.Omega.{arith}
use Rattle.listing.specs.Limits.{most_legs}
use Rattle.promise_arcs.specs.Finding.{nearest}
use Rattle.plan_arcs.specs.Arcs.{arcs_of, gap_first}
use Rattle.plan_arcs.proofs.Found.{next-is}
use Rattle.plan_arcs.proofs.gaps.gap_from.Goals as goal
use Rattle.plan_arcs.proofs.gaps.gap_from.Goals.{After-lowest-first}

-- the rank that was found is the first of the next gap
found : (c : After-lowest-first) → c.lowest-first.result ≡ gap_first c.args.circuit.size c.args.circuit.ruled.plan c.args.x
found c = next-is c.args.circuit.size (arcs_of c.args.circuit.size c.args.circuit.ruled.plan) most_legs _ c.args.x _ c.requires c.lowest-first.ensures

pub returns-then-first-circuit : goal.returns-then-first-circuit
returns-then-first-circuit c =
    let e = found (goal.at.returns-then-first-circuit c).After-lowest-first in
    record { below = omega arith; first = e; many = c.nearest.ensures ∙ ap (nearest c.args.circuit.size (arcs_of c.args.circuit.size c.args.circuit.ruled.plan)) e }

pub returns-else-first-circuit : goal.returns-else-first-circuit
returns-else-first-circuit c = omega (arith, found (goal.at.returns-else-first-circuit c).After-lowest-first)
