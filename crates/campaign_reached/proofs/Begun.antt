-- The state that an accepted text leaves: its plan and unused places are within the rules (`begun_kept`), its campaign is that of the plan (`begun-setting`)
-- and its moment the first one (`begun-moment`). The plan's family is lawful and the model accepts its legs.
-- Assumes nothing.
use mathlib.Core.Path.{◌≡◌, sym, ap, subst, ◌∙◌}
use mathlib.Core.Bool.{true, false, and-eq-true_iff}
use Prim.Native.Nat.{ℕ, ◌≤◌, ◌<◌}
use native.Mathlib.Omega.{arith}
use lib.ListN.{length}
use Rattle.listing.specs.Count.{count}
use Rattle.listing.specs.Ends.{home}
use Rattle.listing.specs.Limits.{most_ports, most_legs}
use Rattle.listing.proofs.Panels.{length-tabulate}
use Rattle.promise.specs.Plan.{leg_at, Lawful, Circuit, Accepted}
use Rattle.promise.specs.Campaign.{Setting, first}
use Rattle.promise.specs.Derangements.{derangements, on_ports}
use Rattle.promise.proofs.Circuit.{circuit-accepts}
use Rattle.promise.proofs.Derangements.{lawful-on, circuit-on}
use Rattle.words.specs.Padded.{padded}
use Rattle.words.proofs.Padded.{padded-room, padded-front, padded-beyond}
use Rattle.plan_rules.specs.Places.{placed, held_of, planned_of}
use Rattle.plan_rules.specs.declared.Plan.{Plan}
use Rattle.plans.proofs.Plans.{accepted-fits}
use Rattle.plan_rules.specs.Rules.{plan_ruled}
use Rattle.plan_rules.proofs.Within.{held-ruled}
use Rattle.campaign_state.specs.State.{width, setting_of, moment_of}
use Rattle.campaign_state.specs.Fitness.{empty_from, places_fit}
use Rattle.campaign_state.proofs.Places.{tells-empty}
use Rattle.campaign.specs.Calls.{first_state}
use Rattle.plan_rules.specs.Planned.{Planned, Fits, device}
use Rattle.plan_rules.proofs.Held.{each_fits, held-planned}
use Rattle.campaign_reached.specs.Turns.{AcceptedPlan, campaign_of, begun}
use Rattle.campaign_reached.proofs.Kept.{Kept}

-- home has as many jacks as there are ports
pub length-home : (n : ℕ) → length (home n) ≡ n
unfolding home
length-home n = length-tabulate n _

-- ---- the first state of a plan that fits

module _ (p : Planned) (f : Fits device p) where
  abbrev held : Plan
  held = placed most_legs p

  -- its places hold the plan
  holds : planned_of held ≡ p
  holds = held-planned device most_legs p f

  -- the panel is 0 beyond the ports
  empty-places : empty_from held.ports (first_state held).panel ≡ true
  unfolding placed
  empty-places = (tells-empty p.ports (padded most_ports 0 (home p.ports))).1
      (λ i h k. padded-beyond most_ports 0 (home p.ports) i (omega (arith, length-home p.ports)))

  -- so the first state is within the rules
  first-fit : places_fit (first_state held) ≡ true
  unfolding places_fit
  first-fit = (and-eq-true_iff (plan_ruled device held) (empty_from held.ports (first_state held).panel)).1 (held-ruled p f, empty-places)

  -- its campaign is the plan's
  first-setting : setting_of (first_state held) ≡ on_ports p.ports p.legs width
  first-setting = ap (λ q. on_ports q.ports q.legs width) holds

  -- its moment is the first
  first-moment : moment_of (first_state held) ≡ first (setting_of (first_state held))
  unfolding first derangements
  first-moment =
      let n : ℕ = held.ports in
      ap (λ q. record { panel = q; leg = 0; step = 0; covered = 0; opened = 0; errors = 0; standing = false; ended = false; to_seat = 0 })
      (padded-front most_ports n 0 (home n) (length-home n))

  -- its panel has a place for each port
  first-room : held.ports ≤ length (first_state held).panel
  first-room = omega (arith, length-home held.ports, padded-room most_ports 0 (home held.ports))

-- ---- the state that an accepted text leaves

module _ (P : AcceptedPlan) where
  abbrev p : Planned
  p = P.plan

  abbrev C : Setting
  C = campaign_of P

  pub plan-fits : Fits device p
  plan-fits = (accepted-fits device 1 P.text p P.accepts).0

  -- its family is lawful, and a circuit
  pub lawful : Lawful C.family
  lawful = lawful-on p.ports plan-fits.few_ports

  pub circuit : Circuit C.family
  circuit = circuit-on p.ports plan-fits.few_ports

  -- each leg starts at a listed rank
  pub starts-listed : (i : ℕ) → i < length p.legs → (leg_at p.legs i).start < C.family.size
  unfolding derangements
  starts-listed i h = (each_fits (count p.ports) p.legs plan-fits.each i h).start

  -- and the model accepts it
  pub accepts : Accepted C.family p.legs
  accepts = circuit-accepts C.family circuit p.legs (omega (arith, plan-fits.few_legs)) starts-listed

  -- the text leaves the plan's first state
  is-first : begun P ≡ first_state (placed most_legs p)
  is-first = ap (λ r. first_state (held_of most_legs r)) P.accepts

  -- which is within the rules
  pub begun_kept : Kept (begun P)
  begun_kept = subst Kept (sym is-first) (record { fit = first-fit p plan-fits; room = first-room p plan-fits })

  -- of the plan's campaign
  pub begun-setting : setting_of (begun P) ≡ C
  begun-setting = ap setting_of is-first ∙ first-setting p plan-fits

  -- and at its first moment
  pub begun-moment : moment_of (begun P) ≡ first C
  begun-moment = subst (λ s. moment_of s ≡ first (setting_of s)) (sym is-first) (first-moment p plan-fits) ∙ ap first begun-setting
