-- Demand three for the code: 'Take any accepted plan and any calls, each on the state the last one left' (`demand-three`), and 'a plan of one full circuit
-- that has ended has met every derangement exactly once' (`all-met`). The calls are those of `campaign`, by their contracts.
-- Assumes nothing.
use mathlib.Core.Path.{◌≡◌, sym, ap, subst, ◌∙◌}
use mathlib.Core.Bool.{true}
use mathlib.Core.List.{List, [], ◌∷◌, map}
use Prim.Native.Nat.{ℕ, suc, ◌<◌}
use native.Mathlib.Omega.{arith}
use lib.ListN.{length}
use Rattle.listing.specs.Count.{count}
use Rattle.promise.specs.Plan.{Leg, leg_at}
use Rattle.promise.specs.Campaign.{Setting, first}
use Rattle.promise.specs.Bench.{acts, run, turns, leaves, left_by}
use Rattle.promise.specs.Demand.{Demanded, Demand, FullCircuit}
use Rattle.promise.specs.Derangements.{derangements}
use Rattle.promise.proofs.Promise.{promise}
use Rattle.promise.proofs.Circuit.{full-circuit}
use Rattle.campaign_state.specs.State.{moment_of}
use Rattle.campaign_reached.specs.Turns.{AcceptedPlan, campaign_of, begun, Called, call_of, turns_of, left_after}
use Rattle.campaign_reached.proofs.Begun.{lawful, circuit, starts-listed, accepts, begun_kept, begun-setting, begun-moment}
use Rattle.campaign_reached.proofs.Kept.{Left, turns-model, left_so}
use Rattle.plan_rules.specs.Planned.{Planned}

module _ (P : AcceptedPlan) where
  abbrev p : Planned
  p = P.plan

  abbrev C : Setting
  C = campaign_of P

  module _ (cs : List Called) where
    -- the turns are those of the model
    pub turned : turns_of cs (begun P) ≡ turns C (map call_of cs)
    turned = turns-model C cs (begun P) (begun_kept P) (begun-setting P) ∙ ap (run C (map call_of cs)) (begun-moment P)

    -- and so is the state that they leave
    pub left : Left C cs (begun P)
    left = left_so C cs (begun P) (begun_kept P) (begun-setting P)

    pub left-moment : moment_of (left_after cs (begun P)) ≡ left_by C (map call_of cs)
    left-moment = left.moment ∙ ap (λ m. leaves m (turns_of cs (begun P))) (begun-moment P) ∙ ap (leaves (first C)) turned

    -- demand three: of each accepted plan and any calls, each on the state the last one left
    pub demand-three : Demand C (turns_of cs (begun P))
    demand-three = subst (Demand C) (sym turned) (promise C (lawful P) (accepts P) (map call_of cs))

    -- so of what the code's own state says: its panel and its counts
    pub demand-left : Demanded C (turns_of cs (begun P)) (acts (turns_of cs (begun P))) (moment_of (left_after cs (begun P)))
    demand-left =
        let same : leaves (first C) (turns_of cs (begun P)) ≡ moment_of (left_after cs (begun P)) = ap (leaves (first C)) turned ∙ sym left-moment in
        subst (Demanded C (turns_of cs (begun P)) (acts (turns_of cs (begun P)))) same demand-three

    -- its last clause: a plan of one full circuit that has ended has met every derangement exactly once, repeats apart
    pub all-met : (l : Leg) → p.legs ≡ l ∷ [] → suc l.run ≡ count p.ports → (left_after cs (begun P)).ended ≡ true
        → FullCircuit (derangements p.ports) (acts (turns_of cs (begun P)))
    unfolding derangements
    all-met l one full ended =
        let begins : l.start < count p.ports = subst (λ ls. (i : ℕ) → i < length ls → (leg_at ls i).start < count p.ports) one (starts-listed P) 0 (omega arith) in
        let over : (left_by C (map call_of cs)).ended ≡ true = sym (ap (λ m. m.ended) left-moment) ∙ ended in
        subst (λ ts. FullCircuit (derangements p.ports) (acts ts)) (sym turned)
        (full-circuit C (lawful P) (circuit P) l one begins full (map call_of cs) over)
