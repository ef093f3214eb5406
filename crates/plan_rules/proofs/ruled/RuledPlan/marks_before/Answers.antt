-- `plan_rules::ruled::RuledPlan::marks_before` adds the marks of one leg more at each turn; all the marks of a plan within the rules fit 64 bits.
use mathlib.Core.Path.{◌≡◌, ap}
use Prim.Native.Nat.{◌+◌, ◌≤◌}
use native.Mathlib.Omega.{arith}
use lib.ListN.{take}
use borrow.Author.Rules.{rules}
use Rattle.listing.specs.Limits.{largest64}
use Rattle.promise.specs.Plan.{marks}
use Rattle.plan_rules.specs.Planned.{device}
use Rattle.plan_rules.specs.Rules.{legs_of}
use Rattle.plan_rules.proofs.Rules.{few-legs, ruled, legs-many}
use Rattle.plan_rules.proofs.Marks.{marks-none, marks-more, marks-fit}
use Rattle.plan_rules.proofs.ruled.RuledPlan.marks_before.Goals as goal
use Rattle.plan_rules.proofs.ruled.RuledPlan.marks_before.Goals.{After-leg_at-l}

-- one leg more
more : (c : After-leg_at-l)
    → c.loop-at.total + (c.leg_at-l.result.run + 1) ≡ marks (take (c.loop-at.at + 1) (legs_of c.args.self.plan))
more c =
    marks-more (legs_of c.args.self.plan) c.loop-at.at _ _ (omega (arith, legs-many device c.args.self.plan (search rules) (search rules) c.args.self.ruled)) c.loop-at.invariant
    (ap (λ x. x.run) c.leg_at-l.ensures)

-- which fits
fits : (c : After-leg_at-l)
    → marks (take (c.loop-at.at + 1) (legs_of c.args.self.plan)) ≤ largest64
fits c =
    marks-fit c.args.self.plan (ruled device c.args.self.plan (search rules) (search rules) c.args.self.ruled) (c.loop-at.at + 1) (omega (arith, few-legs device c.args.self.plan (search rules) (search rules) c.args.self.ruled))

pub loop-at-init : goal.loop-at-init
loop-at-init c = marks-none (legs_of c.args.self.plan)

pub overflow_add-total : goal.overflow_add-total
overflow_add-total c =
    let a = (goal.at.overflow_add-total c).After-leg_at-l in
    omega (arith, more a, fits a)

pub overflow_add-total-in-loop-at : goal.overflow_add-total-in-loop-at
overflow_add-total-in-loop-at c =
    let a = (goal.at.overflow_add-total-in-loop-at c).After-leg_at-l in
    omega (arith, more a, fits a)

pub loop-at-preserved : goal.loop-at-preserved
loop-at-preserved c = more (goal.at.loop-at-preserved c).After-leg_at-l
