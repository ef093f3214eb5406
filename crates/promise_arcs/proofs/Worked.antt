-- Worked cases, by computation: what is found between arcs, and what looking at every rank finds.
-- Assumes nothing.
use mathlib.Core.Path.{◌≡◌, refl}
use mathlib.Core.Bool.{Bool, true, false}
use mathlib.Core.List.{List, [], ◌∷◌, map}
use Prim.Native.Nat.{ℕ}
use Rattle.promise.specs.Plan.{Leg}
use Rattle.promise_arcs.specs.Circle.{onward, backward, ahead}
use Rattle.promise_arcs.specs.Gaps.{Arc, how_many, unnamed_from, begins, gaps_among, gaps_of}
use Rattle.promise_arcs.specs.Finding.{arc_of, lesser, on_some, opening, nearest, lowest, gaps_from, gaps_between}

abbrev leg : ℕ → Bool → ℕ → Leg
leg s b k = record { start = s; back = b; run = k }

abbrev arc : ℕ → ℕ → Arc
arc f m = record { first = f; many = m }

-- among 9 ranks these legs leave these gaps, found either way, and name so many
abbrev Leaves : List Leg → List Arc → ℕ → Type 0
Leaves legs gaps many =
    let arcs = map (arc_of 9) legs in (gaps_between 9 arcs ≡ gaps) × (gaps_of 9 (on_some 9 arcs) ≡ gaps) × (how_many (on_some 9 arcs) 9 ≡ many)

-- start=2 run=4 names 2 to 6: the gap from 7 over 8 to 1 is one arc
pub through-zero : Leaves (leg 2 false 4 ∷ []) (arc 7 4 ∷ []) 5
unfolding gaps_from lowest opening nearest on_some lesser onward backward ahead gaps_of gaps_among begins unnamed_from how_many
through-zero = (refl, refl, refl)

-- overlapping legs: start=3 run=1 and start=4 run=-2 name 2, 3, 4
pub overlapping : Leaves (leg 3 false 1 ∷ leg 4 true 2 ∷ []) (arc 5 6 ∷ []) 3
unfolding gaps_from lowest opening nearest on_some lesser onward backward ahead gaps_of gaps_among begins unnamed_from how_many
overlapping = (refl, refl, refl)

-- two gaps: start=1 run=-2 names 8, 0, 1, and start=4 run=0 names 4
pub two-gaps : Leaves (leg 1 true 2 ∷ leg 4 false 0 ∷ []) (arc 2 2 ∷ arc 5 3 ∷ []) 4
unfolding gaps_from lowest opening nearest on_some lesser onward backward ahead gaps_of gaps_among begins unnamed_from how_many
two-gaps = (refl, refl, refl)

-- legs that touch leave nothing between them: start=0 run=3 and start=8 run=-2
pub touching : Leaves (leg 0 false 3 ∷ leg 8 true 2 ∷ []) (arc 4 2 ∷ []) 7
unfolding gaps_from lowest opening nearest on_some lesser onward backward ahead gaps_of gaps_among begins unnamed_from how_many
touching = (refl, refl, refl)

-- a full circuit leaves none
pub none_left : Leaves (leg 5 false 8 ∷ []) [] 9
unfolding gaps_from lowest opening nearest on_some lesser onward backward ahead gaps_of gaps_among begins unnamed_from how_many
none_left = (refl, refl, refl)
