-- `campaign_state::judging::seat_right` asks what the definition asks, in its order.
use native.Mathlib.Omega.{arith}
use Rattle.std.proofs.lemmas.Bool.Decides.{nat_tests}
use Rattle.promise.specs.Tests.{implies}
use Rattle.campaign_state.proofs.judging.seat_right.Goals as goal

pub returns-then-s-eq0 : goal.returns-then-s-eq0
unfolding implies
returns-then-s-eq0 c = grind (arith, nat_tests)

pub returns-then-not-s : goal.returns-then-not-s
unfolding implies
returns-then-not-s c = grind (arith, nat_tests)

pub returns-else-not-s : goal.returns-else-not-s
unfolding implies
returns-else-not-s c = grind (arith, nat_tests)
