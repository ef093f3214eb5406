-- On the list of document 000, for every number of ports from 2 on: demand three from any fit state on, through any power cuts, and the full circuit.
-- Assumes nothing.
use mathlib.Core.Path.{◌≡◌, sym, ap, ◌∙◌}
use mathlib.Core.Bool.{true}
use mathlib.Core.List.{List, [], ◌∷◌}
use Prim.Native.Nat.{ℕ, suc, ◌≤◌, ◌<◌}
use lib.ListN.{length}
use Rattle.listing.specs.Count.{count}
use Rattle.promise.specs.Plan.{Leg, leg_at, Accepted}
use Rattle.promise.specs.Campaign.{State, Call, Answer, Setting, first}
use Rattle.promise.specs.Fitness.{Fit}
use Rattle.promise.specs.Bench.{run, leaves, turns, acts}
use Rattle.promise.specs.Demand.{FullCircuit}
use Rattle.promise.specs.Derangements.{derangements, on_ports}
use Rattle.promise.specs.Onward.{past_of, Onward}
use Rattle.promise.proofs.Circuit.{circuit-accepts, one-leg-accepted}
use Rattle.promise.proofs.Derangements.{lawful, circuit, lawful-on, circuit-on, all-met}
use Rattle.promise.proofs.Past.{own-past}
use Rattle.promise.proofs.Onward.{onward-fit}
use Rattle.promise_onward.specs.Resume.{Settled}
use Rattle.promise_onward.specs.Lives.{Event, Possible, through, Moment, AreMoments, kept_calls, LivedThrough}
use Rattle.promise_onward.proofs.Lives.{lived-through, lived-demand}

module _ (n : ℕ) (ports : 2 ≤ n) (legs : List Leg) (width : Answer → ℕ) (some : 0 < length legs)
    (starts : (i : ℕ) → i < length legs → (leg_at legs i).start < count n) where
  -- the plan is accepted
  accepted : Accepted (derangements n) legs
  unfolding derangements
  accepted = circuit-accepts (derangements n) (circuit-on n ports) legs some starts

  -- demand three from any fit state on, on a bench whose panel is the state's
  pub onward-on : let C = on_ports n legs width in (s : State) → Fit C s → (cs : List Call) (p : List ℕ) → p ≡ s.panel
      → Onward C p s (past_of C s) (run C cs s) (acts (run C cs s)) (leaves s (run C cs s))
  onward-on = onward-fit (on_ports n legs width) (lawful-on n ports) accepted

  -- through any power cuts
  pub lived-on : let C = on_ports n legs width in (s : State) → Fit C s → Settled s → (p : List ℕ) → p ≡ s.panel → (es : List Event) → Possible C es s
      → LivedThrough C p s (past_of C s) es
  lived-on s f z =
      let C : Setting = on_ports n legs width in
      lived-through C (lawful-on n ports) accepted s f z (past_of C s) (own-past C (lawful-on n ports) accepted s f)

-- 'f. A plan of one full circuit that has ended has met every derangement exactly once, repeats apart': through any power cuts, of the calls that are kept
pub all-met-lived : (m : ℕ) (l : Leg) (width : Answer → ℕ) → l.start < count (suc (suc m)) → suc l.run ≡ count (suc (suc m)) → (es : List Event)
    → let C = on_ports (suc (suc m)) (l ∷ []) width in Possible C es (first C) → (through C es (first C)).ended ≡ true
    → (ms : List Moment) × AreMoments C (first C) es ms × FullCircuit (derangements (suc (suc m))) (acts (turns C (kept_calls ms)))
unfolding derangements
all-met-lived m l width fits full es h ended =
    let C : Setting = on_ports (suc (suc m)) (l ∷ []) width in
    let r = lived-demand C (lawful m) (one-leg-accepted (derangements (suc (suc m))) (circuit m) l fits) es h in
    (r.0, r.1, all-met m l width fits full (kept_calls r.0) (ap (λ (s : State). s.ended) (sym r.2) ∙ ended))
