-- The moves between the parts of the list for n, by n and i: relations (3), (5), (7) and (8) of document 000, and the step from the last pattern to the
-- first. Relations (4), (6) and (9) are these read backwards. A cycle ⟨x,y,z⟩ of the document, multiplied on positions, is the turn x,y,z.
-- Assumes nothing.
use Rattle.std.specs.Prelude.{ℕ, ◌+◌, ◌-◌, cond, eqb, ltb}
use Rattle.listing.specs.Numbers.{odd}
use Rattle.listing.specs.Orders.{Move, nothing, one, two, swap, turn}

-- relation (3), n at least 4: from B(i) to B(i+1) of the first pattern of n - 2
unfoldable pub hop_b : ℕ → ℕ → Move
hop_b n i = cond (eqb i 1) (two 1 2 (n - 1) n) (two (i - 1) n i (i + 1))

-- relation (5), n at least 3: from A(i) to A(i+1) of the first pattern of n - 1
unfoldable pub hop_a : ℕ → ℕ → Move
hop_a n i = cond (eqb i 1) (one (turn 1 (n - 1) n)) (one (turn (i - 1) n i))

-- from block i to block i+1, n at least 4: an odd block ends with B of the first pattern, an even one with A of it
unfoldable pub hop : ℕ → ℕ → Move
hop n i = cond (odd i) (hop_b n i) (hop_a n i)

-- relation (7), n = 4: from A(i) of the last pattern of 3 to B(i) of the last of 2
unfoldable pub join4 : ℕ → Move
join4 i =
    cond (eqb i 1) (one (swap 1 2))
    (cond (eqb i 2) (one (swap 2 3))
    (one (swap 1 3)))

-- relation (8), n at least 5: from A(i) of the last pattern of n - 1 to B(i) of the last of n - 2. The row i = n-2 is the paper's, not the document's
unfoldable pub join5 : ℕ → ℕ → Move
join5 n i =
    cond (eqb i 1) (cond (odd n) (one (turn 1 (n - 3) (n - 2))) (one (turn 1 (n - 2) (n - 3))))
    (cond (ltb i (n - 3)) (two (i - 1) i (n - 3) (n - 2))
    (cond (eqb i (n - 3)) (one (turn (n - 4) (n - 2) (n - 3)))
    (cond (eqb i (n - 2)) (one (turn (n - 4) (n - 2) (n - 1)))
    (cond (odd n) (one (turn (n - 4) (n - 1) (n - 2))) (two (n - 4) (n - 2) (n - 3) (n - 1))))))

-- inside block i, n at least 4
unfoldable pub join : ℕ → ℕ → Move
join n i = cond (eqb n 4) (join4 i) (join5 n i)

-- from the last pattern to the first: the circuit joins them. For 2 ports they are the same
unfoldable pub closing : ℕ → Move
closing n = cond (eqb n 2) nothing (cond (odd n) (one (turn (n - 2) n (n - 1))) (one (swap (n - 2) n)))
