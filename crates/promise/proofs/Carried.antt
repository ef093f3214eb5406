-- Before a leg's first mark the orders are a shortest way by swaps from the panel at the mark before.
-- Assumes nothing.
use mathlib.Core.Path.{◌≡◌, sym, ap, ◌∙◌}
use mathlib.Core.Bool.{false}
use mathlib.Core.List.{List, [], append-nil}
use mathlib.Core.Option.{some}
use Prim.Native.Nat.{ℕ}
use native.Mathlib.Omega.{arith}
use Rattle.listing.specs.Pattern.{Permutation}
use Rattle.promise.specs.Carriage.{carriage}
use Rattle.promise.specs.Plan.{Lawful, Leg, rank_at, leg_of, step_of, place_of, Accepted}
use Rattle.promise.specs.Campaign.{State, Call, Setting, here, number_of, todo}
use Rattle.promise.specs.Fitness.{Fit}
use Rattle.promise.specs.Bench.{Turn, run, acts, lead_to}
use Rattle.promise.specs.Shortest.{Shortest, CarriedShortest}
use Rattle.promise.specs.Onward.{Past, Agrees}
use Rattle.promise.proofs.Legs.{place_of-number}
use Rattle.promise.proofs.Steps.{listed_here, History, history}
use Rattle.promise.proofs.Past.{new-marks}
use Rattle.promise.proofs.Shortest.{carriage-shortest, shortest-here}

module _ (C : Setting) (lawful : Lawful C.family) (accepted : Accepted C.family C.legs) where
  -- the leg and the step of the next mark are the state's
  placed-here : (s : State) → Fit C s → place_of C.legs (number_of C s) ≡ (here C s, s.step)
  placed-here s f = place_of-number C.legs s.leg s.step f.leg f.step

  -- at a new mark the orders since the mark before are all that lead to it
  all-since : (s : State) (b : Past) → Agrees C s b → s.standing ≡ false → s.ended ≡ false → b.again ≡ false → todo C s ≡ some []
      → b.since ≡ lead_to C.family (here C s) s.step b.last
  all-since s b g st en ag w = sym (append-nil b.since) ∙ g.leading st en ag [] w

  -- before a leg's first mark they are a shortest way by swaps from the panel at the mark before
  pub carried-so : {s : State} {ts : List Turn} (b : Past) → Agrees C s b → History C s ts
      → CarriedShortest C.family.ports C.legs b.again b.since b.last s.panel (acts ts)
  carried-so = new-marks C lawful accepted (λ k os last p. step_of C.legs k ≡ 0 → Shortest C.family.ports last p os) (λ s b f g st en ag w first.
      let l : Leg = here C s in
      let t : List ℕ = C.family.pattern (rank_at C.family l 0) in
      let T : Permutation C.family.ports t = lawful.listed (rank_at C.family l 0) (listed_here C lawful accepted s f 0 (omega arith)) in
      let zeroth : s.step ≡ 0 = sym (ap (λ (z : Leg × ℕ). z.1) (placed-here s f)) ∙ first in
      let since : b.since ≡ carriage b.last t = all-since s b g st en ag w ∙ ap (λ k. lead_to C.family l k b.last) zeroth in
      shortest-here (carriage-shortest C.family.ports b.last t g.from T) since g.carried)

  -- so of any calls, from any fit state on
  pub carried-onward : (s : State) (b : Past) → Fit C s → Agrees C s b → (cs : List Call)
      → CarriedShortest C.family.ports C.legs b.again b.since b.last s.panel (acts (run C cs s))
  carried-onward s b f g cs = carried-so b g (history C lawful accepted cs s f)
