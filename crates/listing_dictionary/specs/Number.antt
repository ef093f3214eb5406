-- Dictionary number from pattern and pattern from number, jack by jack and without the list.
-- Assumes nothing.
use Rattle.std.specs.Prelude.{ℕ, zero, suc, ◌+◌, ◌-◌, cond, List, [], ◌∷◌, eqb, ltb, length}
use Rattle.listing.specs.Numbers.{before}
use Rattle.listing_dictionary.specs.Free.{ports, without, later}
use Rattle.listing_dictionary.specs.Completions.{completions}

-- what port y comes to at jack j, where a port below j comes to `early` and one above j to `late`: nothing at its own jack
unfoldable pub worth : ℕ → ℕ → ℕ → ℕ → ℕ
worth early late j y = cond (eqb y j) 0 (cond (ltb j y) late early)

-- The first i jacks are filled, and m jacks are left after jack i + 1: how many ways there are to go on with port y at jack i + 1. A port above it is the own
-- port of a jack that is left, which then has not its own
abbrev pub share : ℕ → ℕ → List ℕ → ℕ → ℕ
share m i free = let own = later (suc i) free in worth (completions m own) (completions m (before own)) (suc i)

-- the shares of the ports of ys that come before x, together
unfoldable pub passed : (ℕ → ℕ) → List ℕ → ℕ → ℕ
passed size [] x = 0
passed size (y ∷ ys) x = cond (eqb y x) 0 (size y + passed size ys x)

-- the number of p among the fillings after the first i jacks: at each jack, what the smaller ports pass over
unfoldable pub number_from : ℕ → List ℕ → List ℕ → ℕ
number_from i free [] = 0
number_from i free (x ∷ p) = passed (share (length p) i free) free x + number_from (suc i) (without x free) p

-- the dictionary number of the pattern p of n ports
unfoldable pub number : ℕ → List ℕ → ℕ
number n p = number_from 0 (ports 0 n) p

-- the port of ys in whose share the number k falls
unfoldable pub chosen : (ℕ → ℕ) → List ℕ → ℕ → ℕ
chosen size [] k = 0
chosen size (y ∷ ys) k = cond (ltb k (size y)) y (chosen size ys (k - size y))

-- and the number within that share
unfoldable pub within : (ℕ → ℕ) → List ℕ → ℕ → ℕ
within size [] k = k
within size (y ∷ ys) k = cond (ltb k (size y)) k (within size ys (k - size y))

-- the filling of m jacks, after the first i, that has number k
unfoldable pub numbered_from : ℕ → ℕ → List ℕ → ℕ → List ℕ
numbered_from zero i free k = []
numbered_from (suc m) i free k =
    let size = share m i free in
    let x = chosen size free k in
    x ∷ numbered_from m (suc i) (without x free) (within size free k)

-- the pattern of n ports that has dictionary number k
unfoldable pub numbered : ℕ → ℕ → List ℕ
numbered n k = numbered_from n 0 (ports 0 n) k
