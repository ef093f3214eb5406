-- `pattern_steps::numbers::is_odd` meets its contract: the parity that code tests.
-- Assumes nothing.
use mathlib.Core.Path.{sym}
use Rattle.listing.proofs.Numbers.{odd-rest}
use Rattle.pattern_steps.proofs.numbers.is_odd.Goals as goal

pub returns : goal.returns
returns c = sym (odd-rest c.args.i)
