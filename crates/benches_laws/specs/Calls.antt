-- What the calls on several benches tell, for accepted and refused calls alike (request 8).
-- Assumes nothing.
use Rattle.std.specs.Prelude.{ℕ, zero, suc, ◌+◌, ◌*◌, ◌≤◌, Bool, cond, ◌&&◌, List, eqb, leb, ltb, length, get_or}
use Rattle.std.proofs.Math.Option.{Option, none, some}
use Rattle.listing.specs.Numbers.{Among}
use Rattle.listing.specs.Count.{count}
use Rattle.listing.specs.Limits.{most_ports}
use Rattle.words.specs.Told.{Told, accepted, refused, nowhere, at_bench}
use Rattle.words.specs.Shape.{one_of}
use Rattle.pattern_check.specs.Calls.{sized}
use Rattle.promise.specs.Plan.{Leg}
use Rattle.promise.specs.Derangements.{most_errors}
use Rattle.benches_laws.specs.Shares.{together, share}
use Rattle.benches_laws.specs.Plans.{plan_of}

-- 'a number of benches from 1 to 64'
abbrev pub most_benches : ℕ
most_benches = 64

-- ports and benches that are not refused
abbrev pub Good : ℕ → ℕ → Type 0
Good n k = ((2 ≤ n) × (n ≤ most_ports)) × Among most_benches k

-- 'Refusals: 1, then 21 bench count outside 1 to 64'
unfoldable pub benched : {A : Type 0} → ℕ → ℕ → Told A → Told A
benched n k t = sized most_ports n (cond (one_of most_benches k) t (refused 21 nowhere))

-- ---- the share of a bench

-- 'then 22 bench number not below it'; else the bench's plan, or that it has none
unfoldable pub share_of : ℕ → ℕ → ℕ → Told (Option Leg)
share_of n k b = benched n k (cond (ltb b k) (accepted (plan_of n k b)) (refused 22 nowhere))

-- ---- the sum of counts

-- the numbers that are lent: 'covered, open, errors in turn', three for each bench
abbrev pub per_bench : ℕ
per_bench = 3

abbrev pub covered_at : List ℕ → ℕ → ℕ
covered_at ns b = get_or ns (per_bench * b) 0

abbrev pub open_at : List ℕ → ℕ → ℕ
open_at ns b = get_or ns (per_bench * b + 1) 0

abbrev pub errors_at : List ℕ → ℕ → ℕ
errors_at ns b = get_or ns (per_bench * b + 2) 0

-- the counts of one bench, or of several added up
pub record Counts : Type 0 where
  pub covered : ℕ
  pub opened : ℕ
  pub errors : ℕ

-- 'the plain sums'
unfoldable pub sums : List ℕ → ℕ → Counts
sums ns k = record { covered = together (covered_at ns) k; opened = together (open_at ns) k; errors = together (errors_at ns) k }

-- whether the counts of a bench with so many marks can be: 27 is for one 'whose covered plus open is above its share or whose errors are above 65,535'
unfoldable pub counts_fit : ℕ → ℕ → ℕ → ℕ → Bool
counts_fit marks covered opened errors = leb (covered + opened) marks && leb errors most_errors

-- the same of bench b among k, of the numbers that are lent
abbrev pub bench_fits : ℕ → ℕ → List ℕ → ℕ → Bool
bench_fits total k ns b = counts_fit (share total k b) (covered_at ns b) (open_at ns b) (errors_at ns b)

-- the first of benches 0, 1, .., k - 1 that does not pass a test
unfoldable pub first_not : (ℕ → Bool) → ℕ → Option ℕ
first_not test zero = none
first_not test (suc k) = found (first_not test k)
  where
    found : Option ℕ → Option ℕ
    found none = cond (test k) none (some k)
    found (some b) = some b

-- '27 for the first bench', at that bench
abbrev pub unless : Option ℕ → Counts → Told Counts
unless none s = accepted s
unless (some b) s = refused 27 (at_bench b)

-- what is told of numbers that are three for each of k benches, which have `total` marks together
unfoldable pub added_up : ℕ → ℕ → List ℕ → Told Counts
added_up total k ns = unless (first_not (bench_fits total k ns) k) (sums ns k)

-- 'in adding up, after 1 and 21': '21 .. (or counts not three each)', then 27; else the sums
unfoldable pub sum_of : ℕ → ℕ → List ℕ → Told Counts
sum_of n k ns = benched n k (cond (eqb (length ns) (per_bench * k)) (added_up (count n) k ns) (refused 21 nowhere))
