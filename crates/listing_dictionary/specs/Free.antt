-- The ports that are still free when the first jacks have theirs, in rising order.
-- Assumes nothing.
use Rattle.std.specs.Prelude.{ℕ, zero, suc, ◌+◌, cond, List, [], ◌∷◌, eqb, ltb}

-- the m ports after i: i + 1, i + 2, .., i + m
unfoldable pub ports : ℕ → ℕ → List ℕ
ports i zero = []
ports i (suc m) = suc i ∷ ports (suc i) m

-- the free ports when x is taken
unfoldable pub without : ℕ → List ℕ → List ℕ
without x [] = []
without x (y ∷ ys) = cond (eqb y x) ys (y ∷ without x ys)

-- how many of the free ports are above i: with the first i jacks filled, those whose own jack is still to come
unfoldable pub later : ℕ → List ℕ → ℕ
later i [] = 0
later i (y ∷ ys) = cond (ltb i y) 1 0 + later i ys
