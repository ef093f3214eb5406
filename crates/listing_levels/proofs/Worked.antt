-- The levels of two patterns, worked out (docs/RANKS.md has both in words): 54231 of rank 9, and 78461352 of rank 2311.
-- Assumes nothing.
use mathlib.Core.Path.{◌≡◌, refl}
use mathlib.Core.Bool.{true, false}
use mathlib.Core.List.{List, [], ◌∷◌}
use Rattle.listing.specs.Numbers.{odd, is, trade, raise, lower}
use Rattle.listing.specs.Pattern.{tabulate}
use Rattle.listing.specs.Count.{count}
use Rattle.listing.specs.Steps.{by_a, by_b, step_a, step_b, un_a, un_b, letter}
use Rattle.listing.specs.Reading.{passed}
use Rattle.listing_levels.specs.Levels.{Level, levels, total, rebuilt}

-- 54231 ends in 1 and came by B from 312, whose list is read backward: all 9 by A(1) are passed over. 312 ends in 2 and came by A from 21, and its list,
-- backward, begins with it
abbrev pub five : List Level
five =
    record { ports = 5; last = 1; by = by_b; forward = false; over = 9 }
    ∷ record { ports = 3; last = 2; by = by_a; forward = true; over = 0 }
    ∷ []

pub five-levels : (levels true 5 (5 ∷ 4 ∷ 2 ∷ 3 ∷ 1 ∷ []) ≡ five) × (total five ≡ 9) × (rebuilt five ≡ 5 ∷ 4 ∷ 2 ∷ 3 ∷ 1 ∷ [])
unfolding levels total rebuilt letter passed count step_a step_b un_a un_b tabulate odd is trade raise lower
five-levels = (refl, refl, refl)

-- 78461352 meets both letters, and lists read both ways
abbrev eight : List Level
eight =
    record { ports = 8; last = 2; by = by_b; forward = true; over = 2119 }
    ∷ record { ports = 6; last = 4; by = by_a; forward = false; over = 168 }
    ∷ record { ports = 5; last = 2; by = by_a; forward = true; over = 22 }
    ∷ record { ports = 4; last = 1; by = by_b; forward = false; over = 2 }
    ∷ []

pub eight-levels : (levels true 8 (7 ∷ 8 ∷ 4 ∷ 6 ∷ 1 ∷ 3 ∷ 5 ∷ 2 ∷ []) ≡ eight)
    × (total eight ≡ 2311)
    × (rebuilt eight ≡ 7 ∷ 8 ∷ 4 ∷ 6 ∷ 1 ∷ 3 ∷ 5 ∷ 2 ∷ [])
unfolding levels total rebuilt letter passed count step_a step_b un_a un_b tabulate odd is trade raise lower
eight-levels = (refl, refl, refl)
