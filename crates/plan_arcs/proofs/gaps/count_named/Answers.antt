-- `plan_arcs::gaps::count_named`: the gaps before rank x are counted, and their ranks taken off the circuit's.
-- Assumes nothing.
use mathlib.Core.Path.{sym, subst}
use Prim.Native.Nat.{◌-◌, ◌≤◌, ◌+◌}
use native.Mathlib.Omega.{arith}
use borrow.Author.Rules.{rules}
use Rattle.listing.specs.Limits.{most_legs}
use Rattle.promise_arcs.proofs.Finding.{next-on}
use Rattle.plan_rules.specs.Planned.{device}
use Rattle.plan_rules.proofs.Rules.{ruled}
use Rattle.plan_arcs.specs.Arcs.{arcs_of, GapIs, Tallies}
use Rattle.plan_arcs.proofs.Found.{Counting, counting-none, counted, takes-off, counts-on, counting_more, ranks-fit, gaps-few, tallies}
use Rattle.plan_arcs.proofs.gaps.count_named.Goals as goal
use Rattle.plan_arcs.proofs.gaps.count_named.Goals.{In-Some}

-- with the next gap: what it takes off is there, it is one more, and what is kept goes on
abbrev Goes : In-Some → Type 0
Goes c =
    (c.in-Some.gap.many ≤ c.loop-gap.left)
    × (c.loop-gap.gaps + 1 ≤ most_legs)
    × (c.loop-gap.x ≤ c.in-Some.gap.first)
    × Counting c.of-circuit.result.size (arcs_of c.of-circuit.result.size c.of-circuit.result.ruled.plan) (c.loop-gap.left - c.in-Some.gap.many) (c.loop-gap.gaps + 1) (c.in-Some.gap.first + 1)

goes : (c : In-Some) → Goes c
goes c =
    let As = arcs_of c.of-circuit.result.size c.of-circuit.result.ruled.plan in
    let g : GapIs c.of-circuit.result.size c.of-circuit.result.ruled.plan c.loop-gap.x c.in-Some.gap = c.in-Some.ensures in
    let fits = ranks-fit c.of-circuit.result.ruled.plan c.of-circuit.result.size c.of-circuit.result.sized c.loop-gap.invariant.1 in (
      takes-off c.of-circuit.result.size As c.loop-gap.left c.loop-gap.gaps c.loop-gap.x _ c.loop-gap.invariant.0 g.below g.many fits,
      omega (arith, counts-on c.of-circuit.result.size As c.loop-gap.left c.loop-gap.gaps c.loop-gap.x _ c.loop-gap.invariant.0 g.below g.many, gaps-few c.of-circuit.result.ruled.plan c.of-circuit.result.size c.of-circuit.result.sized c.loop-gap.invariant.1),
      omega (arith, next-on c.of-circuit.result.size As c.loop-gap.x g.below, g.first),
      subst (λ y. Counting c.of-circuit.result.size As (c.loop-gap.left - c.in-Some.gap.many) (c.loop-gap.gaps + 1) (y + 1)) (sym g.first)
          (counting_more c.of-circuit.result.size As c.loop-gap.left c.loop-gap.gaps c.loop-gap.x _ c.loop-gap.invariant.0 g.below g.many fits),
    )

pub loop-gap-init : goal.loop-gap-init
loop-gap-init c =
    (counting-none c.of-circuit.result.size (arcs_of c.of-circuit.result.size c.of-circuit.result.ruled.plan), ruled device c.of-circuit.result.ruled.plan (search rules) (search rules) c.of-circuit.result.ruled.ruled)

pub returns : goal.returns
returns c =
    subst (λ p. Tallies p.plan (record { named = c.loop-gap.left; gaps = c.loop-gap.gaps })) c.of-circuit.ensures
    (tallies c.of-circuit.result.ruled.plan c.of-circuit.result.size c.of-circuit.result.sized c.loop-gap.invariant.1 _
    (counted c.of-circuit.result.size (arcs_of c.of-circuit.result.size c.of-circuit.result.ruled.plan) c.loop-gap.left c.loop-gap.gaps c.loop-gap.x c.loop-gap.invariant.0 c.in_default.ensures))

pub overflow_sub-left : goal.overflow_sub-left
overflow_sub-left c = (goes (goal.at.overflow_sub-left c).In-Some).0

pub overflow_add-gaps : goal.overflow_add-gaps
overflow_add-gaps c = omega (arith, (goes (goal.at.overflow_add-gaps c).In-Some).1)

pub loop-gap-smaller : goal.loop-gap-smaller
loop-gap-smaller c =
    let g : GapIs c.of-circuit.result.size c.of-circuit.result.ruled.plan c.loop-gap.x c.in-Some.gap = c.in-Some.ensures in
    omega (arith, (goes (goal.at.loop-gap-smaller c).In-Some).2, g.below, g.first)

pub loop-gap-preserved : goal.loop-gap-preserved
loop-gap-preserved c = ((goes (goal.at.loop-gap-preserved c).In-Some).3, c.loop-gap.invariant.1)
