-- The plan of each bench, and what the plans name together.
-- Assumes nothing.
use Rattle.std.specs.Prelude.{ℕ, zero, suc, false, List, [], ◌∷◌}
use Rattle.std.proofs.Math.Option.{Option, none, some}
use Rattle.listing.specs.Count.{count}
use Rattle.promise.specs.Plan.{Leg, ranks}
use Rattle.promise.specs.Derangements.{derangements}
use Rattle.plans.specs.Grammar.{plan_text}
use Rattle.plan_rules.specs.Planned.{Planned}
use Rattle.benches_laws.specs.Shares.{share, begins, in_turn}

-- 'its own one-leg forward plan': the leg that starts at a rank and has so many marks, one more than its run; none where there are none
abbrev pub leg_from : ℕ → ℕ → Option Leg
leg_from start zero = none
leg_from start (suc run) = some (record { start = start; back = false; run = run })

-- the plan of bench b among k, for n ports: its one leg; none for 'the benches left over'
unfoldable pub plan_of : ℕ → ℕ → ℕ → Option Leg
plan_of n k b = leg_from (begins (count n) k b) (share (count n) k b)

-- a plan of one leg, and its text
abbrev pub one_plan : ℕ → Leg → Planned
one_plan n l = record { ports = n; legs = l ∷ [] }

abbrev pub one_plan_text : ℕ → Leg → List ℕ
one_plan_text n l = plan_text (one_plan n l)

-- the ranks that a bench's plan names, in order; none without a plan
abbrev pub named_by : ℕ → Option Leg → List ℕ
named_by n none = []
named_by n (some l) = ranks (derangements n) (l ∷ [])

-- the ranks that the plans of k benches name, bench after bench
abbrev pub named_by_all : ℕ → ℕ → List ℕ
named_by_all n k = in_turn (λ b. named_by n (plan_of n k b)) k

-- the ranks from r on, so many
unfoldable pub from : ℕ → ℕ → List ℕ
from r zero = []
from r (suc m) = r ∷ from (suc r) m
