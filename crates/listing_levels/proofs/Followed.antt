-- The levels that are worked out for 54231 are those of the list itself.
-- Assumes nothing.
use mathlib.Core.Path.{subst}
use mathlib.Core.Bool.{true}
use mathlib.Core.List.{[], ◌∷◌}
use native.Mathlib.Omega.{arith}
use Rattle.listing.specs.Numbers.{odd, is, trade, raise, lower}
use Rattle.listing.specs.Pattern.{tabulate, Derangement}
use Rattle.listing.specs.Count.{count}
use Rattle.listing.specs.Steps.{step_a, step_b}
use Rattle.listing.specs.Listing.{joined, block, blocks, listing, at}
use Rattle.listing.proofs.Ranks.{at-derangement}
use Rattle.listing_levels.specs.Levels.{levels, Follow}
use Rattle.listing_levels.proofs.Levels.{levels-follow}
use Rattle.listing_levels.proofs.Worked.{five, five-levels}

-- so it is in the list itself: what each of these levels says, and no other record says so
pub five-follow : Follow true 5 (5 ∷ 4 ∷ 2 ∷ 3 ∷ 1 ∷ []) five
unfolding at listing blocks block joined count step_a step_b tabulate odd is trade raise lower
five-follow =
    let D : Derangement 5 (5 ∷ 4 ∷ 2 ∷ 3 ∷ 1 ∷ []) = at-derangement 5 9 (omega arith) in
    subst (Follow true 5 (5 ∷ 4 ∷ 2 ∷ 3 ∷ 1 ∷ [])) five-levels.0 (levels-follow 5 true (5 ∷ 4 ∷ 2 ∷ 3 ∷ 1 ∷ []) D)
