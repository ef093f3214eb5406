-- `benches_calls::sharing::start_of` meets its contract: after so many equal shares, and one more for each bench before it that has it. No product and no sum is
-- above all the marks.
use mathlib.Core.Path.{sym}
use native.Mathlib.Omega.{arith}
use Rattle.benches_laws.proofs.Shares.{begins-front, begins-back}
use Rattle.benches_calls.proofs.sharing.start_of.Goals as goal

pub returns-then-bench-over : goal.returns-then-bench-over
returns-then-bench-over c = sym (begins-front _ _ (omega (arith, c.requires.1)) _ (omega (arith, c.if-bench-over.true)))

pub returns-else-bench-over : goal.returns-else-bench-over
returns-else-bench-over c = sym (begins-back _ _ (omega (arith, c.requires.1)) _ c.if-bench-over.false)
