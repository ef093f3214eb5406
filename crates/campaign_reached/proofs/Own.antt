-- Every state that is not refused with 15 is a state of its own plan's campaign: the text of its plan is accepted (`own`), and what holds of the states that
-- calls leave holds of it (`own-reached`).
-- Assumes nothing.
use mathlib.Core.Path.{◌≡◌, refl, sym, subst}
use mathlib.Core.Bool.{true}
use mathlib.Core.List.{List, [], ◌∷◌}
use Prim.Native.Nat.{ℕ, zero, suc, ◌≤◌}
use native.Mathlib.Omega.{arith}
use lib.ListN.{take}
use Rattle.listing.specs.Pattern.{Permutation}
use Rattle.listing.specs.Orders.{Order, carry_all, AllInShape}
use Rattle.listing.proofs.Numbers.{either, test}
use Rattle.listing.proofs.Sources.{carry-permutation}
use Rattle.promise.specs.Plan.{rank_at}
use Rattle.promise.specs.Campaign as model
use Rattle.promise.specs.Campaign.{Setting, here, wanted}
use Rattle.promise.specs.Derangements.{derangements}
use Rattle.promise.specs.Fitness.{Fit, OnTheWay}
use Rattle.plan_rules.specs.Places.{planned_of}
use Rattle.plan_rules.specs.Planned.{device}
use Rattle.plans.specs.Grammar.{plan_text}
use Rattle.plans.proofs.Plans.{fits-accepted}
use Rattle.plans.proofs.Longest.{device-wide}
use Rattle.campaign_state.specs.State.{moment_of}
use Rattle.campaign_state.specs.Fitness.{fit}
use Rattle.campaign_state.specs.declared.State.{State}
use Rattle.campaign_state.proofs.Fit.{fit_parts, moment-fit, fit-inside}
use Rattle.campaign_state.proofs.Places.{Sized, rules, few-ports}
use Rattle.campaign_reached.specs.Turns.{AcceptedPlan, campaign_of}
use Rattle.campaign_reached.proofs.Begun.{lawful, accepts}
use Rattle.campaign_reached.proofs.Reached.{Reached}

-- orders in shape keep a permutation one, however many of them are carried out
carried-permutation : (n i : ℕ) (os : List Order) (p : List ℕ) → AllInShape n os → Permutation n p → Permutation n (carry_all (take i os) p)
unfolding carry_all
carried-permutation n zero os p h P = P
carried-permutation n (suc i) [] p h P = P
carried-permutation n (suc i) (o ∷ os) p h P = carried-permutation n i os _ h.1 (carry-permutation n o p h.0 P)

module _ (P : AcceptedPlan) where
  abbrev C : Setting
  C = campaign_of P

  -- the pattern of a rank that the leg names is a permutation
  named : (m : model.State) → Fit C m → (k : ℕ) → k ≤ m.step → Permutation P.plan.ports (C.family.pattern (rank_at C.family (here C m) k))
  unfolding derangements
  named m f k h = (lawful P).listed _ ((accepts P).listed m.leg k f.leg (omega (arith, f.step)))

  -- and so is each panel on the way to a mark
  way-permutation : (m : model.State) → Fit C m → (k : ℕ) → m.step ≡ k → OnTheWay C.family (here C m) k m.panel → Permutation P.plan.ports m.panel
  unfolding OnTheWay derangements
  way-permutation m f zero e w = w
  way-permutation m f (suc k) e w =
      let l = here C m in
      let r = rank_at C.family l k in
      let steps = (lawful P).steps l.back r ((accepts P).listed m.leg k f.leg (omega (arith, f.step))) ((accepts P).listed m.leg (suc k) f.leg (omega (arith, f.step))) in
      subst (Permutation P.plan.ports) w.2 (carried-permutation P.plan.ports w.0 _ _ steps.shaped (named m f k (omega arith)))

  -- so the panel of a fit state is
  fit-permutation : (m : model.State) → Fit C m → Permutation P.plan.ports m.panel
  fit-permutation m f =
      let at : m.panel ≡ wanted C m → Permutation P.plan.ports m.panel = λ e. subst (Permutation P.plan.ports) (sym e) (named m f m.step (omega arith)) in
      either (test m.standing)
      (λ st. at (f.at_mark st))
      (λ st. either (test m.ended) (λ en. at (f.at_end en)) (λ en. way-permutation m f m.step refl (f.between st en)))

-- ---- a state's own plan

module _ (s : State) (z : Sized s) (f : fit s ≡ true) where
  abbrev pub own : AcceptedPlan
  own = record {
    text = plan_text (planned_of s.plan);
    plan = planned_of s.plan;
    accepts = fits-accepted device 1 (planned_of s.plan) device-wide (rules s z (fit_parts s f).0).fits;
  }

  pub own-reached : Reached own s
  own-reached = record {
    kept = record { fit = (fit_parts s f).0; room = omega (arith, (few-ports s z (fit-inside s f)).1, z.panel) };
    setting = refl;
    fit = moment-fit s f;
    permutation = fit-permutation own (moment_of s) (moment-fit s f);
  }
