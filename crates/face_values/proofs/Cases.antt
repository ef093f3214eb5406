-- The numbers of include/jidrofex.h that stand in definitions alone: the kinds of lines and moves.
-- Assumes nothing.
use mathlib.Core.Path.{◌≡◌, refl}
use mathlib.Core.List.{List, [], ◌∷◌}
use Prim.Native.Nat.{ℕ}
use Rattle.face_values.specs.Lines.{nothing_kind, swap_kind, turn_kind, mark_kind, end_kind, two_swaps_kind, seat_kind}

-- JIDROFEX_NOTHING, JIDROFEX_SWAP, JIDROFEX_TURN, JIDROFEX_MARK, JIDROFEX_END, JIDROFEX_TWO_SWAPS, JIDROFEX_SEAT
abbrev pub kinds : List ℕ
kinds = nothing_kind ∷ swap_kind ∷ turn_kind ∷ mark_kind ∷ end_kind ∷ two_swaps_kind ∷ seat_kind ∷ []

-- they are 0 to 6
pub kinds-hold : kinds ≡ 0 ∷ 1 ∷ 2 ∷ 3 ∷ 4 ∷ 5 ∷ 6 ∷ []
kinds-hold = refl
