-- `plan_arcs::finding::Circuit::nearest`: `near` is how near the arcs from leg i on are.
-- Assumes nothing.
use mathlib.Core.Path.{sym, ap₂, ◌∙◌}
use native.Mathlib.Omega.{arith}
use borrow.Author.Rules.{rules}
use Rattle.promise_arcs.specs.Finding.{lesser}
use Rattle.plan_rules.specs.Planned.{device}
use Rattle.plan_rules.specs.Rules.{legs_of}
use Rattle.plan_rules.proofs.Rules.{legs-many}
use Rattle.plan_arcs.proofs.Loops.{none-near, nearest-down}
use Rattle.plan_arcs.proofs.finding.Circuit.nearest.Goals as goal

pub loop-i-init : goal.loop-i-init
loop-i-init c =
    (omega (arith, legs-many device c.args.self.ruled.plan (search rules) (search rules) c.args.self.ruled.ruled), none-near c.args.self.size (legs_of c.args.self.ruled.plan) c.args.self.ruled.plan.legs c.args.e (sym (legs-many device c.args.self.ruled.plan (search rules) (search rules) c.args.self.ruled.ruled)))

pub arc_at-a-requires : goal.arc_at-a-requires
arc_at-a-requires c =
    omega (arith, c.loop-i.invariant.0, legs-many device c.args.self.ruled.plan (search rules) (search rules) c.args.self.ruled.ruled)

pub loop-i-preserved : goal.loop-i-preserved
loop-i-preserved c = (
  search rules,
  c.lesser-near.ensures ∙ ap₂ lesser c.ahead.ensures c.loop-i.invariant.1
      ∙ sym (nearest-down c.args.self.size (legs_of c.args.self.ruled.plan) c.loop-i.i (search rules) c.loop-i.invariant.0 _
      c.arc_at-a.ensures.is c.args.e),
)
