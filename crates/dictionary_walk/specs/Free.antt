-- The free ports by an array that has, for each port, whether it is taken.
-- Assumes nothing.
use Rattle.std.specs.Prelude.{ℕ, zero, suc, Bool, false, cond, List, [], ◌∷◌, get_or}

-- of the m ports after i, those that are not taken, in rising order; port 1 stands first in the array
unfoldable pub frees : List Bool → ℕ → ℕ → List ℕ
frees taken i zero = []
frees taken i (suc m) = cond (get_or taken i false) (frees taken (suc i) m) (suc i ∷ frees taken (suc i) m)
