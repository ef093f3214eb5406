-- `plan_rules::ruled::RuledPlan::leg_at` gives the leg that place i holds.
use mathlib.Core.Path.{sym, ap, ◌∙◌}
use native.Mathlib.Omega.{arith}
use lib.IntN.{pos}
use lib.ListN.{get_or}
use mir.Syntax.{w64}
use mir.ValLaws.{to_z-of_z}
use borrow.Author.Rules.{rules}
use Rattle.plan_rules.specs.Places.{leg_held}
use Rattle.plan_rules.specs.Planned.{device}
use Rattle.plan_rules.proofs.Rules.{few-legs, leg-in-place}
use Rattle.plan_rules.proofs.ruled.RuledPlan.leg_at.Goals as goal

pub bounds-starts-at : goal.bounds-starts-at
bounds-starts-at c =
    omega (arith, few-legs device c.args.self.plan (search rules) (search rules) c.args.self.ruled)

pub bounds-runs-at : goal.bounds-runs-at
bounds-runs-at c =
    omega (arith, few-legs device c.args.self.plan (search rules) (search rules) c.args.self.ruled)

pub returns : goal.returns
returns c =
    c.leg_of.ensures
    ∙ ap (leg_held (get_or c.args.self.plan.starts c.args.i 0)) (to_z-of_z w64 (get_or c.args.self.plan.runs c.args.i (pos 0)) (search rules))
    ∙ sym (leg-in-place device c.args.self.plan (search rules) (search rules) c.args.self.ruled c.args.i c.requires)
