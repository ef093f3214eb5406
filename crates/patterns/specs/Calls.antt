-- What each public call tells, and which bytes it leaves, as the paper has it: over the list, for accepted and refused calls alike.
-- The most ports of the device is a parameter.
-- Assumes nothing.
use Rattle.std.specs.Prelude.{ℕ, Bool, cond, List, ltb, ℤ, length}
use Rattle.listing.specs.Count.{count}
use Rattle.listing.specs.Listing.{at}
use Rattle.listing.specs.Rank.{rank}
use Rattle.listing.specs.Orders.{Move}
use Rattle.listing.specs.Neighbours.{rank_beside, move_beside}
use Rattle.listing.specs.Around.{around}
use Rattle.words.specs.Told.{Told, accepted, refused, nowhere, then, leaves}
use Rattle.pattern_check.specs.Calls.{sized, check_of}

-- refusal 6 unless the rank is below the count
unfoldable pub ranked : {A : Type 0} → ℕ → ℕ → Told A → Told A
ranked n r t = cond (ltb r (count n)) t (refused 6 nowhere)

-- the count: 1
unfoldable pub count_of : ℕ → ℕ → Told ℕ
count_of most n = sized most n (accepted (count n))

-- the rank of a pattern: the refusals of the check
unfoldable pub rank_of : ℕ → List ℕ → Told ℕ
rank_of most p = then (check_of most p) (λ ok. accepted (rank (length p) p))

-- whether r is the rank of a pattern of n ports, and so its number in any order that begins at 0: 1, then 6
unfoldable pub listed_of : ℕ → ℕ → ℕ → Told (Unit {0})
listed_of most n r = sized most n (ranked n r (accepted tt))

-- the pattern of a rank, for as many ports as the slice has bytes
abbrev pub unrank_of : ℕ → ℕ → List ℕ → Told (Unit {0})
unrank_of most r out = listed_of most (length out) r

-- the pattern beside a pattern, next or previous: the refusals of the check; else the move that was made
unfoldable pub beside_of : ℕ → Bool → List ℕ → Told Move
beside_of most back p = then (check_of most p) (λ ok. accepted (move_beside (length p) back (rank (length p) p)))

-- the rank that a signed step leads to: 1, then 6
unfoldable pub step_of : ℕ → ℕ → ℕ → ℤ → Told ℕ
step_of most n r k = sized most n (ranked n r (accepted (around (count n) r k)))

unfoldable pub unrank_bytes : ℕ → ℕ → List ℕ → List ℕ
unrank_bytes most r out = leaves (unrank_of most r out) (at (length out) r) out

unfoldable pub beside_bytes : ℕ → Bool → List ℕ → List ℕ
beside_bytes most back p = leaves (beside_of most back p) (at (length p) (rank_beside (length p) back (rank (length p) p))) p
