-- `pattern_steps::numbers::raised` meets its contract: the test is the definition's.
-- Assumes nothing.
use native.Mathlib.Omega.{arith}
use Rattle.listing.proofs.Numbers.{raise-high, raise-low}
use Rattle.pattern_steps.proofs.numbers.raised.Goals as goal

pub returns-then-i-v : goal.returns-then-i-v
returns-then-i-v c = omega (arith, raise-high c.args.i c.args.v c.if-i-v.true)

pub returns-else-i-v : goal.returns-else-i-v
returns-else-i-v c = omega (arith, raise-low c.args.i c.args.v c.if-i-v.false)
