-- Two jacks that can be swapped, and where two panels differ.
-- Assumes nothing.
use Rattle.std.specs.Prelude.{ℕ, zero, suc, cond, List, ◌≢◌, eqb, length}
use Rattle.listing.specs.Numbers.{Among}
use Rattle.listing.specs.Pattern.{entry}

-- a and b are two jacks of the panel p
abbrev pub Swappable : List ℕ → ℕ → ℕ → Type 0
Swappable p a b = Among (length p) a × Among (length p) b × (a ≢ b)

-- the first of k jacks, from jack j on, at which two panels differ; 0 if none does
unfoldable pub wrong_from : ℕ → ℕ → List ℕ → List ℕ → ℕ
wrong_from zero j p q = 0
wrong_from (suc k) j p q = cond (eqb (entry p j) (entry q j)) (wrong_from k (suc j) p q) j
