-- A circuit of c ranks, from 0 to c - 1: 'The circuit joins last to first' (the paper, 'The list'). Steps on, steps back, and how many steps on one rank is from
-- another.
-- Assumes nothing.
use Rattle.std.specs.Prelude.{ℕ, ◌+◌, ◌-◌, cond, leb, ltb}

-- the rank i steps on from rank a; i is at most c
unfoldable pub onward : ℕ → ℕ → ℕ → ℕ
onward c a i = cond (ltb (a + i) c) (a + i) (a + i - c)

-- the rank i steps back from rank a; i is at most c
unfoldable pub backward : ℕ → ℕ → ℕ → ℕ
backward c a i = cond (leb i a) (a - i) (a + c - i)

-- how many steps on from rank a rank r is: 0 for a itself, at most c - 1
unfoldable pub ahead : ℕ → ℕ → ℕ → ℕ
ahead c a r = cond (leb a r) (r - a) (r + c - a)
