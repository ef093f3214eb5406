-- `printing::rehearsals::ran_of` adds the marks of the legs before and the step, or those of all legs, where plan, leg and step are within the rules.
use mathlib.Core.Path.{◌≡◌, ap, subst, ◌∙◌}
use mathlib.Core.Bool.{true}
use Prim.Native.Nat.{◌+◌}
use native.Mathlib.Omega.{arith}
use lib.ListN.{length, take}
use borrow.Author.Rules.{rules}
use Rattle.listing.specs.Limits.{most_legs}
use Rattle.promise.specs.Plan.{leg_at, marks}
use Rattle.plan_rules.specs.Planned.{device}
use Rattle.plan_rules.specs.Rules.{legs_of, plan_ruled}
use Rattle.printing.proofs.Ran.{InRules, ran-all, ran-some, ran-room, no-plan, no-leg, no_step}
use Rattle.printing.proofs.rehearsals.ran_of.Goals as goal
use Rattle.printing.proofs.rehearsals.ran_of.Goals.{In-Some, Start, Then-r-leg_at}

-- the places for legs
starts : (c : Start) → length c.args.r.plan.starts ≡ most_legs
starts c = search rules

runs : (c : Start) → length c.args.r.plan.runs ≡ most_legs
runs c = search rules

-- the plan passed its test
plan-passed : (c : In-Some) → plan_ruled device c.args.r.plan ≡ true
plan-passed c = subst (λ p. plan_ruled device p ≡ true) c.in-Some.ensures c.in-Some.plan.ruled

-- plan, leg and step passed their tests
passed : (c : Then-r-leg_at) → plan_ruled device c.args.r.plan ≡ true → length c.args.r.plan.starts ≡ most_legs → length c.args.r.plan.runs ≡ most_legs → InRules c.args.r
passed c p a b = record {
  starts = a;
  runs = b;
  plan = p;
  leg = c.if-r.true;
  step = omega (arith, c.if-r-leg_at.true, ap (λ x. x.run) c.leg_at.ensures, ap (λ q. (leg_at (legs_of q) c.args.r.leg).run) c.in-Some.ensures);
}

pub returns-then-r-2 : goal.returns-then-r-2
returns-then-r-2 c =
    let at = goal.at.returns-then-r-2 c in
    c.marks_before.ensures
    ∙ ap (λ q. marks (take c.args.r.plan.legs (legs_of q))) c.in-Some.ensures
    ∙ ran-all _ (passed at.Then-r-leg_at (plan-passed at.In-Some) (starts at.Start) (runs at.Start)) c.if-r-2.true

pub overflow_add-result : goal.overflow_add-result
overflow_add-result c =
    let at = goal.at.overflow_add-result c in
    omega (
      arith,
      c.marks_before-else-r-2.ensures,
      ap (λ q. marks (take c.args.r.leg (legs_of q))) c.in-Some.ensures,
      ran-room _ (passed at.Then-r-leg_at (plan-passed at.In-Some) (starts at.Start) (runs at.Start)),
    )

pub returns-else-r-2 : goal.returns-else-r-2
returns-else-r-2 c =
    let at = goal.at.returns-else-r-2 c in
    ap (λ m. m + c.args.r.step) (c.marks_before-else-r-2.ensures ∙ ap (λ q. marks (take c.args.r.leg (legs_of q))) c.in-Some.ensures)
    ∙ ran-some _ (passed at.Then-r-leg_at (plan-passed at.In-Some) (starts at.Start) (runs at.Start)) c.if-r-2.false

-- a step above the leg's run
pub returns-in_default : goal.returns-in_default
returns-in_default c =
    no_step _ (plan-passed (goal.at.returns-in_default c).In-Some) c.if-r.true
    (omega (arith, c.if-r-leg_at.false, ap (λ x. x.run) c.leg_at.ensures, ap (λ q. (leg_at (legs_of q) c.args.r.leg).run) c.in-Some.ensures))

-- a leg that is none of the plan's
pub returns-in_default-2 : goal.returns-in_default-2
returns-in_default-2 c = no-leg _ (plan-passed (goal.at.returns-in_default-2 c).In-Some) c.if-r.false

-- a plan outside the rules
pub returns-in_default-3 : goal.returns-in_default-3
returns-in_default-3 c = no-plan _ c.in_default.ensures
