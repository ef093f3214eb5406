-- The marked cases (the paper, 'Cases to prove'), with the counts and the anchors that 'The list' names.
-- Assumes nothing.
use Rattle.std.specs.Prelude.{ℕ, ◌≡◌, List, [], ◌∷◌, ℤ, pos, negsuc}
use Rattle.listing.specs.Count.{count}
use Rattle.listing.specs.Listing.{at}
use Rattle.listing.specs.Rank.{rank, unrank}
use Rattle.listing.specs.Around.{around}

-- a case: the count for n ports, the pattern of a rank, or where a signed step from a rank leads
pub data Case : Type 0 where
  counts : ℕ → ℕ → Case
  ranks : ℕ → ℕ → List ℕ → Case
  steps : ℕ → ℕ → ℤ → ℕ → Case

-- what a case says
abbrev pub Holds : Case → Type 0
Holds (counts n c) = count n ≡ c
Holds (ranks n r p) = (at n r ≡ p) × (rank n p ≡ r) × (unrank n r ≡ p)
Holds (steps n r k s) = around (count n) r k ≡ s

abbrev pub All : List Case → Type 0
All [] = Unit {0}
All (c ∷ cs) = Holds c × All cs

unfoldable pub marked : List Case
marked =
    counts 1 0
    ∷ counts 2 1
    ∷ counts 3 2
    ∷ counts 4 9
    ∷ counts 5 44
    ∷ counts 20 895014631192902121
    ∷ ranks 2 0 (2 ∷ 1 ∷ [])
    ∷ ranks 3 1 (3 ∷ 1 ∷ 2 ∷ [])
    ∷ ranks 4 0 (2 ∷ 3 ∷ 4 ∷ 1 ∷ [])
    ∷ ranks 4 3 (3 ∷ 4 ∷ 1 ∷ 2 ∷ [])
    ∷ ranks 4 8 (2 ∷ 1 ∷ 4 ∷ 3 ∷ [])
    ∷ ranks 5 9 (5 ∷ 4 ∷ 2 ∷ 3 ∷ 1 ∷ [])
    ∷ ranks 5 31 (4 ∷ 1 ∷ 5 ∷ 2 ∷ 3 ∷ [])
    ∷ ranks 5 43 (2 ∷ 3 ∷ 5 ∷ 1 ∷ 4 ∷ [])
    ∷ steps 4 0 (negsuc 0) 8
    ∷ steps 4 8 (pos 1) 0
    ∷ steps 4 0 (negsuc 9223372036854775807) 1
    ∷ []
