-- `plan_rules::plan_ruled` asks what the definition asks, in its order.
use native.Mathlib.Omega.{arith}
use Rattle.std.proofs.lemmas.Bool.Decides.{nat_tests}
use Rattle.plan_rules.specs.Rules.{plan_ruled}
use Rattle.plan_rules.proofs.plan_ruled.Goals as goal

pub returns-then-p-le-MOST_LEGS : goal.returns-then-p-le-MOST_LEGS
unfolding plan_ruled
returns-then-p-le-MOST_LEGS c = grind (arith, nat_tests)

pub returns-else-p-le-MOST_LEGS : goal.returns-else-p-le-MOST_LEGS
unfolding plan_ruled
returns-else-p-le-MOST_LEGS c = grind (arith, nat_tests)
