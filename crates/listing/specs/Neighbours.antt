-- Next and previous round the circuit: the rank there, and the move that leads there in closed form.
-- Assumes nothing.
use Rattle.std.specs.Prelude.{ℕ, zero, suc, ◌-◌, ◌/◌, ◌%◌, Bool, true, false, cond, eqb, ltb}
use Rattle.listing.specs.Numbers.{before, is, odd}
use Rattle.listing.specs.Count.{count}
use Rattle.listing.specs.Rank.{from_end, per_block}
use Rattle.listing.specs.Orders.{Move, nothing, one, turn, inverse, raised}
use Rattle.listing.specs.Joins.{join, hop, closing}

-- the rank after r round the circuit: rank 0 comes after the last
unfoldable pub next_rank : ℕ → ℕ → ℕ
next_rank n r = is (suc r) (count n) 0 (suc r)

-- the rank before r round the circuit: the last comes before rank 0
unfoldable pub previous_rank : ℕ → ℕ → ℕ
previous_rank n r = is r 0 (before (count n)) (before r)

-- Inside an odd block i of the list for n, the move from place u to the next: the move of the list for n - 1 as it is, the join, or the move of the list for
-- n - 2 among the jacks without i, and backward. (shortA and shortB: the moves of those two lists)
unfoldable pub inside : ℕ → ℕ → (ℕ → Move) → (ℕ → Move) → ℕ → Move
inside n i shortA shortB u =
    cond (ltb (suc u) (count (before n))) (shortA u)
    (cond (eqb (suc u) (count (before n))) (join n i)
    (inverse (raised i (shortB (from_end (count (before (before n))) (suc (u - count (before n))))))))

-- From place s of block i: inside the block, an even block being an odd one read backwards; at its end the hop to the next block, or from the last block the
-- closing step
unfoldable pub on_from : ℕ → (ℕ → Move) → (ℕ → Move) → ℕ → ℕ → Move
on_from n shortA shortB i s =
    cond (ltb (suc s) (per_block n))
    (cond (odd i) (inside n i shortA shortB s) (inverse (inside n i shortA shortB (from_end (per_block n) (suc s)))))
    (cond (eqb (suc i) n) (closing n) (hop n i))

-- the move from the pattern of rank r to the next
unfoldable pub next_move : ℕ → ℕ → Move
next_move zero r = nothing
next_move (suc zero) r = nothing
next_move (suc (suc zero)) r = closing 2
next_move (suc (suc (suc zero))) r = cond (eqb r 0) (one (turn 1 2 3)) (closing 3)
next_move (suc (suc (suc (suc m)))) r =
    let n = suc (suc (suc (suc m))) in
    on_from n (next_move (suc (suc (suc m)))) (next_move (suc (suc m))) (suc (r / per_block n)) (r % per_block n)

-- the move from the pattern of rank r to the previous: the move that led from there, backward
unfoldable pub previous_move : ℕ → ℕ → Move
previous_move n r = inverse (next_move n (previous_rank n r))

-- ---- the one or the other

-- the rank one on, or one back, round the circuit
abbrev pub rank_beside : ℕ → Bool → ℕ → ℕ
rank_beside n false r = next_rank n r
rank_beside n true r = previous_rank n r

-- the move that leads there
abbrev pub move_beside : ℕ → Bool → ℕ → Move
move_beside n false r = next_move n r
move_beside n true r = previous_move n r
