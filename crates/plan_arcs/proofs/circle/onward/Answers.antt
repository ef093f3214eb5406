-- `plan_arcs::circle::onward`: the two cases of the definition, with the differences taken first so that no sum wraps.
-- Assumes nothing.
use native.Mathlib.Omega.{arith}
use Rattle.listing.proofs.Numbers.{either}
use Rattle.promise_arcs.proofs.Circle.{onward-cases}
use Rattle.plan_arcs.proofs.circle.onward.Goals as goal

pub returns-then-i-c : goal.returns-then-i-c
returns-then-i-c c = either (onward-cases c.args.c c.args.a c.args.i) (λ w. omega arith) (λ w. omega arith)

pub returns-else-i-c : goal.returns-else-i-c
returns-else-i-c c = either (onward-cases c.args.c c.args.a c.args.i) (λ w. omega arith) (λ w. omega arith)
