-- Request 14: no sequence of swaps is shorter than the carriage, and whatever any calls are given before a leg's first mark is as short (`shortest-carriage`).
-- Assumes nothing.
use mathlib.Core.Path.{refl, sym, subst, ◌∙◌}
use mathlib.Core.List.{List, map}
use Rattle.promise.specs.Bench.{acts}
use Rattle.promise.specs.Campaign.{first}
use Rattle.promise.specs.Derangements.{derangements}
use Rattle.promise.specs.Onward.{first_past, past_of}
use Rattle.promise.proofs.Steps.{fit-first}
use Rattle.promise.proofs.Past.{own-past}
use Rattle.promise.proofs.Promise.{agrees_first}
use Rattle.promise.proofs.Carried.{carried-onward}
use Rattle.promise.proofs.Shortest.{carriage-shortest, fewest-in-swaps, way_on, turn-wins, self-join-passed, wins-from, half-at-best}
use Rattle.campaign_state.specs.State.{setting_of, moment_of}
use Rattle.campaign_reached.specs.Turns.{AcceptedPlan, campaign_of, begun, Called, call_of, turns_of}
use Rattle.campaign_reached.proofs.Begun.{lawful, accepts}
use Rattle.campaign_reached.proofs.Kept.{turns-model}
use Rattle.campaign_reached.proofs.Own.{own, own-reached}
use Rattle.demands.specs.Shortest.{Carried, ShortestCarriage}
use Rattle.demands.proofs.Three.{turned}
use Rattle.demands.proofs.Bytes.{robot-acts}
use Rattle.demands.proofs.Words.{robot-same}

-- of what any calls on an accepted plan are given
given_so : (P : AcceptedPlan) (cs : List Called) → Carried P (acts (turns_of cs (begun P)))
unfolding first derangements
given_so P cs =
    let C = campaign_of P in
    subst (λ ts. Carried P (acts ts)) (sym (turned P cs))
    (carried-onward C (lawful P) (accepts P) (first C) (first_past C) (fit-first C (lawful P) (accepts P)) (agrees_first C (lawful P) (accepts P)) (map call_of cs))

pub shortest-carriage : ShortestCarriage
shortest-carriage = record {
  none_shorter = carriage-shortest;
  given = given_so;
  bytes = λ P cs. subst (Carried P) (sym (robot-acts P cs)) (given_so P cs);
  words = λ P ws long cs. subst (Carried P) (sym (robot-same P ws long cs ∙ robot-acts P cs)) (given_so P cs);
  onward = λ s z f cs.
      let C = setting_of s in
      let P : AcceptedPlan = own s z f in
      let m = moment_of s in
      let fits = (own-reached s z f).fit in
      rw (turns-model C cs s (own-reached s z f).kept refl)
      (carried-onward C (lawful P) (accepts P) m (past_of C m) fits (own-past C (lawful P) (accepts P) m fits) (map call_of cs));
  any_panel = λ n p q t os vs w v. way_on os vs w v;
  in_swaps_none = λ n p t P T os w. fewest-in-swaps n os p t P T w;
  in_orders = turn-wins;
  self_join = self-join-passed;
  smallest = wins-from;
  half_at_best = half-at-best;
}
