-- `plan_arcs::gaps::put_gaps`: the gaps before rank x are written, and with the rest behind them the slice is as it has to be.
-- Assumes nothing.
use mathlib.Core.Path.{refl, sym, ap, subst, ◌∙◌}
use Prim.Native.Nat.{◌≤◌, ◌<◌, ◌+◌}
use native.Mathlib.Omega.{arith}
use lib.ListN.{length, set, length-set}
use borrow.Author.Rules.{rules}
use Rattle.line_format.specs.Calls.{over}
use Rattle.promise_arcs.specs.Named.{numbers}
use Rattle.promise_arcs.proofs.Finding.{next-on}
use Rattle.plan_rules.specs.Planned.{device}
use Rattle.plan_rules.proofs.Rules.{ruled}
use Rattle.plan_arcs.specs.Arcs.{arcs_of, gaps_in, GapIs}
use Rattle.plan_arcs.proofs.Found.{Writing, writing-none, written, room-two, writing_more, gaps-are}
use Rattle.plan_arcs.proofs.gaps.put_gaps.Goals as goal
use Rattle.plan_arcs.proofs.gaps.put_gaps.Goals.{In-Some}

-- there is room for the next gap's two numbers
room : (c : In-Some) → c.loop-gap.at + 1 < length c.loop-gap.out
room c =
    let g : GapIs c.of-circuit.result.size c.of-circuit.result.ruled.plan c.loop-gap.x c.in-Some.gap = c.in-Some.ensures in
    room-two c.of-circuit.result.size (arcs_of c.of-circuit.result.size c.of-circuit.result.ruled.plan) c.args.out.now c.loop-gap.out c.loop-gap.at c.loop-gap.x _ c.loop-gap.invariant.0 g.below refl

pub loop-gap-init : goal.loop-gap-init
loop-gap-init c =
    let R = ruled device c.of-circuit.result.ruled.plan (search rules) (search rules) c.of-circuit.result.ruled.ruled in
    (writing-none c.of-circuit.result.size (arcs_of c.of-circuit.result.size c.of-circuit.result.ruled.plan) c.args.out.now (subst (λ ns. length ns ≤ length c.args.out.now) (ap (λ p. numbers (gaps_in p.plan)) (sym c.of-circuit.ensures) ∙ gaps-are c.of-circuit.result.ruled.plan c.of-circuit.result.size c.of-circuit.result.sized R) c.requires), R, refl)

pub returns : goal.returns
returns c =
    written c.of-circuit.result.size (arcs_of c.of-circuit.result.size c.of-circuit.result.ruled.plan) c.args.out.now c.loop-gap.out c.loop-gap.at c.loop-gap.x c.loop-gap.invariant.0 c.in_default.ensures
    ∙ ap (λ ns. over ns c.args.out.now) (sym (gaps-are c.of-circuit.result.ruled.plan c.of-circuit.result.size c.of-circuit.result.sized c.loop-gap.invariant.1))
    ∙ ap (λ p. over (numbers (gaps_in p.plan)) c.args.out.now) c.of-circuit.ensures

pub bounds-out-at : goal.bounds-out-at
bounds-out-at c = omega (arith, room (goal.at.bounds-out-at c).In-Some)

pub bounds-out-at-in-Some : goal.bounds-out-at-in-Some
bounds-out-at-in-Some c =
    omega (arith, room (goal.at.bounds-out-at-in-Some c).In-Some, length-set c.loop-gap.out c.loop-gap.at c.in-Some.gap.first)

pub loop-gap-smaller : goal.loop-gap-smaller
loop-gap-smaller c =
    let g : GapIs c.of-circuit.result.size c.of-circuit.result.ruled.plan c.loop-gap.x c.in-Some.gap = c.in-Some.ensures in
    omega (arith, g.below, g.first, next-on c.of-circuit.result.size (arcs_of c.of-circuit.result.size c.of-circuit.result.ruled.plan) c.loop-gap.x g.below)

pub loop-gap-preserved : goal.loop-gap-preserved
loop-gap-preserved c =
    let As = arcs_of c.of-circuit.result.size c.of-circuit.result.ruled.plan in
    let g : GapIs c.of-circuit.result.size c.of-circuit.result.ruled.plan c.loop-gap.x c.in-Some.gap = c.in-Some.ensures in (
      subst (λ y. Writing c.of-circuit.result.size As c.args.out.now (set (set c.loop-gap.out c.loop-gap.at y) (c.loop-gap.at + 1) c.in-Some.gap.many) (c.loop-gap.at + 2) (y + 1)) (sym g.first)
          (writing_more c.of-circuit.result.size As c.args.out.now c.loop-gap.out c.loop-gap.at c.loop-gap.x _ c.loop-gap.invariant.0 g.below g.many),
      c.loop-gap.invariant.1,
      length-set (set c.loop-gap.out c.loop-gap.at c.in-Some.gap.first) (c.loop-gap.at + 1) c.in-Some.gap.many ∙ length-set c.loop-gap.out c.loop-gap.at c.in-Some.gap.first ∙ c.loop-gap.invariant.2,
    )
