-- `plan_arcs::circle::ahead`: the two cases of the definition, with the differences taken first so that no sum wraps.
-- Assumes nothing.
use native.Mathlib.Omega.{arith}
use Rattle.listing.proofs.Numbers.{either}
use Rattle.promise_arcs.proofs.Circle.{ahead-cases}
use Rattle.plan_arcs.proofs.circle.ahead.Goals as goal

pub returns-then-a-r : goal.returns-then-a-r
returns-then-a-r c = either (ahead-cases c.args.c c.args.a c.args.r (omega arith)) (λ w. omega arith) (λ w. omega arith)

pub returns-else-a-r : goal.returns-else-a-r
returns-else-a-r c = either (ahead-cases c.args.c c.args.a c.args.r (omega arith)) (λ w. omega arith) (λ w. omega arith)
