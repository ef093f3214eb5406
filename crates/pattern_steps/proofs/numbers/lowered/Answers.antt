-- `pattern_steps::numbers::lowered` meets its contract: the test is the definition's.
-- Assumes nothing.
use native.Mathlib.Omega.{arith}
use Rattle.listing.proofs.Numbers.{either, lower-cases}
use Rattle.pattern_steps.proofs.numbers.lowered.Goals as goal

pub returns-then-i-v : goal.returns-then-i-v
returns-then-i-v c = either (lower-cases c.args.i c.args.v) (λ d. omega arith) (λ d. omega arith)

pub returns-else-i-v : goal.returns-else-i-v
returns-else-i-v c = either (lower-cases c.args.i c.args.v) (λ d. omega arith) (λ d. omega arith)
