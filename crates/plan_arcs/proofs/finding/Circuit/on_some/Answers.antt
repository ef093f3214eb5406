-- `plan_arcs::finding::Circuit::on_some`: the rank lies on none of the arcs from leg i on.
-- Assumes nothing.
use mathlib.Core.Path.{sym}
use native.Mathlib.Omega.{arith}
use borrow.Author.Rules.{rules}
use Rattle.plan_rules.specs.Planned.{device}
use Rattle.plan_rules.specs.Rules.{legs_of}
use Rattle.plan_rules.proofs.Rules.{legs-many}
use Rattle.plan_arcs.proofs.Loops.{none-on, one_on, none_more}
use Rattle.plan_arcs.proofs.finding.Circuit.on_some.Goals as goal

pub loop-i-init : goal.loop-i-init
loop-i-init c =
    (omega (arith, legs-many device c.args.self.ruled.plan (search rules) (search rules) c.args.self.ruled.ruled), none-on c.args.self.size (legs_of c.args.self.ruled.plan) c.args.self.ruled.plan.legs c.args.r (sym (legs-many device c.args.self.ruled.plan (search rules) (search rules) c.args.self.ruled.ruled)))

pub arc_at-a-requires : goal.arc_at-a-requires
arc_at-a-requires c =
    omega (arith, c.loop-i.invariant.0, legs-many device c.args.self.ruled.plan (search rules) (search rules) c.args.self.ruled.ruled)

pub returns-then-ahead-a : goal.returns-then-ahead-a
returns-then-ahead-a c =
    one_on c.args.self.size (legs_of c.args.self.ruled.plan) c.loop-i.i (search rules) c.loop-i.invariant.0 _
    c.arc_at-a.ensures.is c.args.r (omega (arith, c.ahead.ensures))

pub loop-i-preserved : goal.loop-i-preserved
loop-i-preserved c = (
  search rules,
  none_more c.args.self.size (legs_of c.args.self.ruled.plan) c.loop-i.i (search rules) c.loop-i.invariant.0 _
      c.arc_at-a.ensures.is c.args.r (omega (arith, c.ahead.ensures)) c.loop-i.invariant.1,
)
