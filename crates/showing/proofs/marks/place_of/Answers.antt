-- `showing::marks::place_of`: the marks of the legs before `leg` and `step` are the mark's number; each turn leaves a leg behind.
-- Assumes nothing.
use mathlib.Core.Path.{ap}
use native.Mathlib.Omega.{arith}
use borrow.Author.Rules.{rules}
use Rattle.plan_rules.specs.Planned.{device}
use Rattle.plan_rules.specs.Rules.{legs_of}
use Rattle.plan_rules.proofs.Rules.{few-legs, legs-many}
use Rattle.showing.proofs.Places.{some-leg, place_here, leg-on, step-on}
use Rattle.showing.proofs.marks.place_of.Goals as goal

pub loop-step-init : goal.loop-step-init
loop-step-init c = some-leg (legs_of c.args.ruled.plan) c.args.k c.requires

pub leg_at-run-requires : goal.leg_at-run-requires
leg_at-run-requires c =
    omega (arith, c.loop-step.invariant.0, legs-many device c.args.ruled.plan (search rules) (search rules) c.args.ruled.ruled)

pub returns-then-step-run : goal.returns-then-step-run
returns-then-step-run c =
    place_here _ _ c.loop-step.leg c.loop-step.step _ c.loop-step.invariant.0 c.loop-step.invariant.1 (ap (λ x. x.run) c.leg_at-run.ensures) c.if-step-run.true

pub overflow_add-leg : goal.overflow_add-leg
overflow_add-leg c =
    let few = few-legs device c.args.ruled.plan (search rules) (search rules) c.args.ruled.ruled in
    let many = legs-many device c.args.ruled.plan (search rules) (search rules) c.args.ruled.ruled in
    search rules

pub loop-step-preserved : goal.loop-step-preserved
loop-step-preserved c =
    let e = ap (λ x. x.run) c.leg_at-run.ensures in (
      leg-on _ _ c.loop-step.leg c.loop-step.step _ c.loop-step.invariant.0 c.loop-step.invariant.1 e (omega arith) c.requires,
      step-on _ _ c.loop-step.leg c.loop-step.step _ c.loop-step.invariant.0 c.loop-step.invariant.1 e (omega arith) c.requires,
    )
