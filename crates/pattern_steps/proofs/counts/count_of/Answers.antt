-- `pattern_steps::counts::count_of` meets its contract: each arm has the count of its number of ports.
-- Assumes nothing.
use mathlib.Core.Path.{◌≡◌}
use native.Mathlib.Omega.{arith}
use Rattle.listing.specs.Count.{count}
use Rattle.pattern_steps.proofs.counts.count_of.Goals as goal

-- where n is none of the numbers before, it is 20
pub returns-in_default : goal.returns-in_default
unfolding count
returns-in_default c = let last : c.args.n ≡ 20 = omega arith in rw last
