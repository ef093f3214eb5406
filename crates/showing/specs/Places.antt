-- Where a mark of a plan stands: the number of its leg, and the rehearsal that is about to hand it out, its pattern on the panel.
-- Assumes nothing.
use Rattle.std.specs.Prelude.{ℕ, suc, ◌-◌, ◌≤◌, ◌<◌, ◌≡◌, false, cond, List, [], ◌∷◌, leb, length}
use Rattle.listing.specs.Listing.{at}
use Rattle.listing.specs.Limits.{most_ports}
use Rattle.words.specs.Padded.{padded}
use Rattle.promise.specs.Plan.{Leg, leg_at, rank_at, number, leg_of, step_of}
use Rattle.promise.specs.Derangements.{derangements}
use Rattle.plan_rules.specs.Rules.{legs_of}
use Rattle.plan_rules.specs.declared.Plan.{Plan}
use Rattle.printing.specs.declared.Rehearsal.{Rehearsal}
use Rattle.showing.specs.declared.marks.MarkPlace.{MarkPlace}

-- the number of the leg that has the mark with number m, as `place_of` finds the leg itself
unfoldable pub leg_number : List Leg → ℕ → ℕ
leg_number [] m = 0
leg_number (l ∷ ls) m = cond (leb m l.run) 0 (suc (leg_number ls (m - suc l.run)))

-- the rank of the mark with number k
abbrev pub mark_rank : Plan → ℕ → ℕ
mark_rank p k = rank_at (derangements p.ports) (leg_of (legs_of p) k) (step_of (legs_of p) k)

-- the rehearsal at mark k: the panel at its pattern, 0 beyond the ports, and the mark comes next
unfoldable pub rehearsal_at : Plan → ℕ → Rehearsal
rehearsal_at p k = record {
  plan = p;
  panel = padded most_ports 0 (at p.ports (mark_rank p k));
  leg = leg_number (legs_of p) k;
  step = step_of (legs_of p) k;
  ended = false;
}

-- ---- inner pieces

-- r is the place of the mark with number k: a leg and a step of it, and the mark there has that number
pub record PlaceIs (ls : List Leg) (k : ℕ) (r : MarkPlace) : Type 0 where
  pub leg : r.leg < length ls
  pub step : r.step ≤ (leg_at ls r.leg).run
  pub number : number ls r.leg r.step ≡ k
