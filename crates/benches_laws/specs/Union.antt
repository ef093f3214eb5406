-- What the benches did, each with its own plan, and what is promised of their union: 'Each bench's campaign keeps demand 3 by itself; the product's claim is
-- about their union.'
-- Assumes nothing.
use Rattle.std.specs.Prelude.{ℕ, ◌+◌, ◌<◌, ◌≡◌, true, List, [], ◌∷◌, length, get_or}
use Rattle.std.proofs.Math.Option.{Option, none, some}
use Rattle.listing.specs.Pattern.{Derangement}
use Rattle.listing.specs.Count.{count}
use Rattle.listing.specs.Listing.{listing}
use Rattle.listing.specs.Ends.{home}
use Rattle.words.specs.Told.{accepted}
use Rattle.promise.specs.Plan.{Leg}
use Rattle.promise.specs.Campaign.{State, Answer, is_ran, is_error, is_gave_up}
use Rattle.promise.specs.Bench.{Turn, Act, panels_met, reports, reported_as}
use Rattle.promise.specs.Demand.{Demanded, Once}
use Rattle.promise.specs.Derangements.{on_ports}
use Rattle.benches_laws.specs.Shares.{together, in_turn}
use Rattle.benches_laws.specs.Plans.{plan_of}
use Rattle.benches_laws.specs.Calls.{sum_of}

-- ---- one bench

-- what calls did on a bench: the turns, what happened on the bench in them, and the state that they left
pub record Did : Type 0 where
  pub turned : List Turn
  pub happened : List Act
  pub left : State

-- demand three of it, for a bench with this plan
abbrev pub Kept : ℕ → (Answer → ℕ) → Leg → Did → Type 0
Kept n width l d = Demanded (on_ports n (l ∷ []) width) d.turned d.happened d.left

-- what its state counts, 'covered, open, errors in turn'; 'three zeros for a bench without a plan'
abbrev pub counts_left : Option Leg → Did → List ℕ
counts_left none d = 0 ∷ 0 ∷ 0 ∷ []
counts_left (some l) d = d.left.covered ∷ d.left.opened ∷ d.left.errors ∷ []

-- its own history: the marks that were reported as run, those that were given up, the errors; none without a plan
abbrev pub marks_run : Option Leg → Did → ℕ
marks_run none d = 0
marks_run (some l) d = length (reported_as is_ran none d.happened)

abbrev pub marks_given_up : Option Leg → Did → ℕ
marks_given_up none d = 0
marks_given_up (some l) d = reports is_gave_up d.happened

abbrev pub errors_told : Option Leg → Did → ℕ
errors_told none d = 0
errors_told (some l) d = reports is_error d.happened

-- the panels at its marks, repeats struck out
abbrev pub panels_on : ℕ → Option Leg → Did → List (List ℕ)
panels_on n none d = []
panels_on n (some l) d = panels_met (home n) d.happened

-- its campaign has ended; without a plan there is none
abbrev pub Ended : Option Leg → Did → Type 0
Ended none d = Unit {0}
Ended (some l) d = d.left.ended ≡ true

-- ---- all benches

-- panels one after the other: every derangement of n ports exactly once
pub record AllOnce (n : ℕ) (ps : List (List ℕ)) : Type 0 where
  -- they are the list itself, from rank 0 on
  pub in_order : ps ≡ listing n
  -- so each derangement stands at one place exactly, and nothing else does
  pub each : (p : List ℕ) → Derangement n p → Once p ps
  pub no_other : (i : ℕ) → i < length ps → Derangement n (get_or ps i [])
  pub many : length ps ≡ count n

-- the campaign of n ports over k benches, where D b is what was done on bench b
pub record Union (n k : ℕ) (D : ℕ → Did) : Type 0 where
  -- 'Where each three is what the calls on that bench's plan left in its state .., the answer must equal the sums over their own histories'
  pub sums : sum_of n k (in_turn (λ b. counts_left (plan_of n k b) (D b)) k) ≡ accepted (record {
    covered = together (λ b. marks_run (plan_of n k b) (D b)) k;
    opened = together (λ b. marks_given_up (plan_of n k b) (D b)) k;
    errors = together (λ b. errors_told (plan_of n k b) (D b)) k;
  })
  -- when every bench has ended, every derangement was met exactly once over all benches, repeats apart
  pub met : ((b : ℕ) → b < k → Ended (plan_of n k b) (D b)) → AllOnce n (in_turn (λ b. panels_on n (plan_of n k b) (D b)) k)
  -- and each of them is covered or open
  pub whole : ((b : ℕ) → b < k → Ended (plan_of n k b) (D b))
      → together (λ b. marks_run (plan_of n k b) (D b)) k + together (λ b. marks_given_up (plan_of n k b) (D b)) k ≡ count n
