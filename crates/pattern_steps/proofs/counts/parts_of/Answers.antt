-- `pattern_steps::counts::parts_of` meets its contract: each arm has the counts for one port less and for two.
-- Assumes nothing.
use mathlib.Core.Path.{◌≡◌, refl}
use native.Mathlib.Omega.{arith}
use Rattle.listing.specs.Count.{count}
use Rattle.pattern_steps.proofs.counts.parts_of.Goals as goal

-- where n is none of the numbers before, it is 20
pub returns-in_default : goal.returns-in_default
unfolding count
returns-in_default c = let last : c.args.n ≡ 20 = omega arith in rw last (refl, refl)
