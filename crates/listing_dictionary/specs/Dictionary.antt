-- The list of all patterns of n ports in dictionary order.
-- Assumes nothing.
use Rattle.std.specs.Prelude.{ℕ, zero, suc, cond, eqb, get_or}
use mathlib.Core.List.{List, [], ◌∷◌, map, flat_map}
use Rattle.listing_dictionary.specs.Free.{ports, without}

-- the panels that have port y at jack j and go on as one of `rest`; none if y is j
unfoldable pub beginning : ℕ → ℕ → List (List ℕ) → List (List ℕ)
beginning j y rest = cond (eqb y j) [] (map (λ q. y ∷ q) rest)

-- The first i jacks are filled and m are left: all ways to fill these with the free ports. Jack i + 1 gets the free ports in turn, the smallest first
unfoldable pub fillings : ℕ → ℕ → List ℕ → List (List ℕ)
fillings zero i free = [] ∷ []
fillings (suc m) i free = flat_map (λ y. beginning (suc i) y (fillings m (suc i) (without y free))) free

-- the dictionary for n ports: no jack is filled, and all ports are free
unfoldable pub dictionary : ℕ → List (List ℕ)
dictionary n = fillings n 0 (ports 0 n)

-- the pattern at place k of the dictionary, counted from 0
unfoldable pub in_dictionary : ℕ → ℕ → List ℕ
in_dictionary n k = get_or (dictionary n) k []
