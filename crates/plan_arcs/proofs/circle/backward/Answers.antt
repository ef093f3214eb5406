-- `plan_arcs::circle::backward`: the two cases of the definition, with the differences taken first so that no sum wraps.
-- Assumes nothing.
use native.Mathlib.Omega.{arith}
use Rattle.listing.proofs.Numbers.{either}
use Rattle.promise_arcs.proofs.Circle.{backward-cases}
use Rattle.plan_arcs.proofs.circle.backward.Goals as goal

pub returns-then-i-a : goal.returns-then-i-a
returns-then-i-a c = either (backward-cases c.args.c c.args.a c.args.i (omega arith)) (λ w. omega arith) (λ w. omega arith)

pub returns-else-i-a : goal.returns-else-i-a
returns-else-i-a c = either (backward-cases c.args.c c.args.a c.args.i (omega arith)) (λ w. omega arith) (λ w. omega arith)
