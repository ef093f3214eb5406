-- `plan_rules::ruled::RuledPlan::marks_before` adds the marks of one leg more at each turn; all the marks of a plan within the rules fit 64 bits.
use mathlib.Core.Path.{◌≡◌}
use lib.ListN.{take}
use Rattle.promise.specs.Plan.{marks}
use Rattle.plan_rules.specs.Rules.{legs_of}
use Rattle.plan_rules.proofs.ruled.RuledPlan.marks_before.Given as goal

abbrev pub invariant-loop-at : goal.invariant-loop-at
invariant-loop-at l = l.total ≡ marks (take l.at (legs_of l.self.plan))
