-- `pattern_ranks::ranking::rank_of` meets its contract: the rank is the place with nothing passed over, and it is below the count, which fits.
-- Assumes nothing.
use native.Mathlib.Omega.{arith}
use Rattle.listing.proofs.Limits.{count_most}
use Rattle.listing.proofs.Ranks.{rank_below}
use Rattle.pattern_ranks.proofs.ranking.rank_of.Goals as goal

pub place-requires : goal.place-requires
place-requires c = omega (arith, rank_below _ _ c.args.t.now.arrays.pattern, count_most _ c.args.t.now.fits)
