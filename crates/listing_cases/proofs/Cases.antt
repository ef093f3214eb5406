-- Every marked case holds: by computation, from the definitions of the list alone.
-- Assumes nothing.
use mathlib.Core.Path.{refl}
use Rattle.listing.specs.Numbers.{is, trade, raise, lower, odd}
use Rattle.listing.specs.Pattern.{tabulate}
use Rattle.listing.specs.Count.{count}
use Rattle.listing.specs.Steps.{step_a, step_b, un_a, un_b}
use Rattle.listing.specs.Listing.{joined, block, blocks, listing, at}
use Rattle.listing.specs.Rank.{place, rank, unrank}
use Rattle.listing.specs.Around.{modulo, around}
use Rattle.listing_cases.specs.Cases.{All, marked}

-- one case and the others
infixr 5 ◌also◌
◌also◌ : {A B : Type 0} → A → B → A × B
a also b = (a, b)

pub marked-hold : All marked
unfolding marked is trade raise lower odd tabulate count step_a step_b un_a un_b joined block blocks listing at place rank unrank modulo around
marked-hold =
    refl also refl also refl also refl also refl also refl
    also (refl, refl, refl)
    also (refl, refl, refl)
    also (refl, refl, refl)
    also (refl, refl, refl)
    also (refl, refl, refl)
    also (refl, refl, refl)
    also (refl, refl, refl)
    also (refl, refl, refl)
    also refl also refl also refl
    also tt
