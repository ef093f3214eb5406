-- `plan_arcs::finding::Circuit::opening` is past the arc, or nowhere where an arc lies there.
-- Assumes nothing.
use mathlib.Core.Path.{sym, ◌∙◌}
use native.Mathlib.Omega.{arith}
use Rattle.promise_arcs.proofs.Circle.{onward-below}
use Rattle.plan_arcs.specs.Arcs.{arcs_of}
use Rattle.plan_arcs.proofs.Arcs.{opening-none, opening_past}
use Rattle.plan_arcs.proofs.finding.Circuit.opening.Goals as goal

pub on_some-requires : goal.on_some-requires
on_some-requires c =
    omega (arith, c.onward-past.ensures, onward-below c.args.self.size _ _ c.arc_at-a.ensures.within.0 c.arc_at-a.ensures.within.1)

pub returns-then-on_some : goal.returns-then-on_some
returns-then-on_some c =
    opening-none c.args.self.size (arcs_of c.args.self.size c.args.self.ruled.plan) _ _ _ c.arc_at-a.ensures.is c.onward-past.ensures (sym c.on_some.ensures ∙ c.if-on_some.true)

pub returns-else-on_some : goal.returns-else-on_some
returns-else-on_some c =
    opening_past c.args.self.size (arcs_of c.args.self.size c.args.self.ruled.plan) _ _ _ c.arc_at-a.ensures.is c.onward-past.ensures (sym c.on_some.ensures ∙ c.if-on_some.false)
