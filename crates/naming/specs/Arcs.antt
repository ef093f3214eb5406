-- Gaps in numbers, as `promise_arcs.Named.numbers` has them.
-- Assumes nothing.
use Rattle.std.specs.Prelude.{ℕ, zero, suc, List, [], ◌∷◌, drop, get_or}
use Rattle.promise_arcs.specs.Gaps.{Arc}

-- so many arcs at the front of numbers, two for each
unfoldable pub arcs_in : ℕ → List ℕ → List Arc
arcs_in zero ns = []
arcs_in (suc k) ns = record { first = get_or ns 0 0; many = get_or ns 1 0 } ∷ arcs_in k (drop 2 ns)
