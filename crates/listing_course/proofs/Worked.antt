-- A course, worked out: 54231 ends in 1 and came by B, so level 4 is skipped; 312 ends in 2 and came by A; 21 ends in 1 and came by B.
-- Assumes nothing.
use mathlib.Core.Path.{◌≡◌, refl}
use mathlib.Core.Bool.{false}
use mathlib.Core.List.{List, [], ◌∷◌}
use Prim.Native.Nat.{ℕ}
use Rattle.listing.specs.Numbers.{odd, is, trade, raise, lower}
use Rattle.listing.specs.Pattern.{tabulate}
use Rattle.listing.specs.Steps.{step_a, step_b}
use Rattle.listing.specs.Orders.{one, turn, source, carry, carry_all, moved}
use Rattle.listing_course.specs.Course.{built}
use Rattle.listing_course.specs.Onward.{read_at, goes_on, bottom_read, course_move}

-- the numbers of levels 1 to 5
abbrev worked : List ℕ
worked = 0 ∷ 1 ∷ 2 ∷ 0 ∷ 1 ∷ []

pub built-worked : (built worked 2 ≡ 2 ∷ 1 ∷ []) × (built worked 3 ≡ 3 ∷ 1 ∷ 2 ∷ []) × (built worked 5 ≡ 5 ∷ 4 ∷ 2 ∷ 3 ∷ 1 ∷ [])
unfolding built step_a step_b tabulate is trade raise lower
built-worked = (refl, refl, refl)

-- the move on from 54231: level 3 is open, by the turn 1,3,2, and B(1) raises it
pub moved-worked : (course_move worked 5 false ≡ one (turn 2 4 3)) × (moved (one (turn 2 4 3)) (built worked 5) ≡ 5 ∷ 3 ∷ 4 ∷ 2 ∷ 1 ∷ [])
unfolding course_move bottom_read goes_on read_at built step_a step_b tabulate odd is trade raise lower source carry carry_all
moved-worked = (refl, refl)
