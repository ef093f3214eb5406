-- `benches_calls::adding::counts_fit` meets its contract: covered and open are compared one after the other, which is their sum compared.
use native.Mathlib.Omega.{arith}
use Rattle.std.proofs.lemmas.Bool.Decides.{nat_tests}
use Rattle.benches_laws.specs.Calls.{counts_fit}
use Rattle.benches_calls.proofs.adding.counts_fit.Goals as goal

pub returns-then-opened-marks : goal.returns-then-opened-marks
unfolding counts_fit
returns-then-opened-marks c = grind (arith, nat_tests)

pub returns-else-opened-marks : goal.returns-else-opened-marks
unfolding counts_fit
returns-else-opened-marks c = grind (arith, nat_tests)
